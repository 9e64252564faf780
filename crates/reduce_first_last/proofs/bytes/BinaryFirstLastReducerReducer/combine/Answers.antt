use Rattle.std.proofs.Common.{ap, sym, ◌∙◌}
use Rattle.col_core.specs.declared.leaf.Leaf.{Leaf}
use Rattle.reduce_first_last.specs.Numbers.{numbered_state}
use Rattle.kept_values.specs.Kept.{bytes_or_null}
use Rattle.group_reduce.specs.Reducing.{Merges}
use Rattle.reduce_first_last.proofs.Numbering.{replaced, left}
use Rattle.reduce_first_last.proofs.bytes.BinaryFirstLastReducerReducer.combine.Goals as goal

pub returns-in_ok-a-clause-ok : goal.returns-in_ok-a-clause-ok
unfolding Merges
returns-in_ok-a-clause-ok g c = λ t x y h i.
    let a = c.args.a.now in
    let b = c.args.b.now in
    let v = bytes_or_null a.value in
    let w = bytes_or_null b.value in
    replaced g.P.Policy.kind t x y a.number b.number v w c.replaces.result (c.replaces.ensures t v w) c.if-replaces.true h i
    ∙ ap (λ (l : Leaf). numbered_state b.number l) (sym (c.in_ok-a.ensures ∙ c.lend_bytes.ensures.value))

pub returns-else-replaces-clause-ok : goal.returns-else-replaces-clause-ok
unfolding Merges
returns-else-replaces-clause-ok g c = λ t x y h i.
    let a = c.args.a.now in
    let b = c.args.b.now in
    let v = bytes_or_null a.value in
    let w = bytes_or_null b.value in
    left g.P.Policy.kind t x y a.number b.number v w c.replaces.result (c.replaces.ensures t v w) c.if-replaces.false h i
