use Rattle.std.proofs.Math.ListN.{set}
use Rattle.std.proofs.Common.{◌≡◌, Bool, List, true, false, not, get_or, is_some, refl, sym, subst, ap, ◌∙◌}
use Rattle.col_core.specs.Values.{value_at, is_null}
use Rattle.reduce_states.specs.States.{start, merge, one}
use Rattle.group_reduce.specs.Reducing.{TakesOne}
use Rattle.group_reduce.specs.Masked.{AreMasked}
use Rattle.group_reduce.proofs.Kept.{found}
use Rattle.group_reduce.proofs.Bits.{is_some-one, is_some-merge, masked_same, masked_set}
use Rattle.std.proofs.lemmas.Bool.{or_right}
use Rattle.group_reduce.proofs.masked.VecMaskGroupedReduction.enter_at.Goals as goal

pub returns-then-is_null-clause-ok : goal.returns-then-is_null-clause-ok
returns-then-is_null-clause-ok g c = λ t xs h.
    let k = g.R.Reducer.kind in
    let v = value_at c.args.values.now.values c.args.i in
    let null : is_null v ≡ true = ap is_null (sym c.leaf_ref.ensures.value) ∙ sym c.is_null.ensures ∙ c.if-is_null.true in
    let none : is_some (one k t (record { number = c.args.seq_id; value = v })) ≡ false = is_some-one k t c.args.seq_id v c.args.self.now.skips ∙ ap not null in
    masked_same g.R.Reducer.stands k t c.args.self.now.values.items c.args.self.now.mask xs c.args.g (one k t (record { number = c.args.seq_id; value = v })) h c.requires.place none

pub returns-clause-ok : goal.returns-clause-ok
unfolding TakesOne
returns-clause-ok g c = λ t xs h.
    let R = g.R.Reducer.stands in
    let k = g.R.Reducer.kind in
    let vs = c.args.self.now.values.items in
    let p = c.args.g in
    let v = value_at c.args.values.now.values c.args.i in
    let more = one k t (record { number = c.args.seq_id; value = v }) in
    let old = get_or xs p (start k t) in
    let value : is_null v ≡ false = ap is_null (sym c.leaf_ref.ensures.value) ∙ sym c.is_null.ensures ∙ c.if-is_null.false in
    let some : is_some more ≡ true = is_some-one k t c.args.seq_id v c.args.self.now.skips ∙ ap not value in
    let bit : true ≡ is_some (merge k t old more) = sym (is_some-merge k t old more ∙ or_right (is_some old) (is_some more) some) in
    let mine = found R vs xs p c.index_mut.result.now (start k t) h.stand c.requires.place c.index_mut.ensures.value in
    subst (λ (bits : List Bool). AreMasked R (set vs p c.reduce_at.new.a) bits (set xs p (merge k t old more))) (sym c.set.ensures)
    (masked_set R vs c.args.self.now.mask xs p c.reduce_at.new.a true (merge k t old more) h (c.in_ok-reduce_at.ensures.ok t c.args.seq_id old refl mine) bit)
