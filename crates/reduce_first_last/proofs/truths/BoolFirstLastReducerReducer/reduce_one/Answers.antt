use Rattle.std.proofs.Common.{ap, sym, ◌∙◌}
use Rattle.col_core.specs.declared.leaf.Leaf.{Leaf}
use Rattle.col_core.specs.declared.data_type.PhysicalType.TheVariants as kept
use Rattle.col_core.specs.Lent.{lent_leaf}
use Rattle.reduce_states.specs.States.{one}
use Rattle.kept_values.specs.Kept.{truth_or_null}
use Rattle.kept_values.proofs.Types.{fits_kept_as}
use Rattle.group_reduce.specs.Reducing.{TakesOne}
use Rattle.reduce_first_last.specs.Numbers.{numbered_state}
use Rattle.reduce_first_last.proofs.Numbering.{replaced, left, one_numbered}
use Rattle.reduce_first_last.proofs.truths.BoolFirstLastReducerReducer.reduce_one.Goals as goal

pub returns-then-replaces-clause-ok : goal.returns-then-replaces-clause-ok
unfolding TakesOne
returns-then-replaces-clause-ok g c = λ t n x e h.
    let k = g.P.Policy.kind in
    let a = c.args.a.now in
    let v = truth_or_null a.value in
    let w = lent_leaf c.args.b in
    let seq_id = c.args.seq_id in
    replaced k t x (one k t (record { number = n; value = w })) a.number seq_id v w c.replaces.result (c.replaces.ensures t v w) c.if-replaces.true h (one_numbered k t seq_id n w g.met.P.Policy.kind_law e)
    ∙ ap (λ (l : Leaf). numbered_state seq_id l) (sym c.truth_of-a.ensures)

pub returns-else-replaces-clause-ok : goal.returns-else-replaces-clause-ok
unfolding TakesOne
returns-else-replaces-clause-ok g c = λ t n x e h.
    let k = g.P.Policy.kind in
    let a = c.args.a.now in
    let v = truth_or_null a.value in
    let w = lent_leaf c.args.b in
    let seq_id = c.args.seq_id in
    left k t x (one k t (record { number = n; value = w })) a.number seq_id v w c.replaces.result (c.replaces.ensures t v w) c.if-replaces.false h (one_numbered k t seq_id n w g.met.P.Policy.kind_law e)

pub truth_of-a-requires : goal.truth_of-a-requires
truth_of-a-requires g c =
    let served = c.requires.served in
    fits_kept_as kept.Boolean served.0 (lent_leaf c.args.b) served.1 served.2
