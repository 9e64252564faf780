use Rattle.std.proofs.Common.{◌<◌, ◌+ℤ◌, map, length, List, ap, ◌∙◌, arith}
use Rattle.std.proofs.lemmas.List.{length-map, take_all}
use Rattle.col_core.specs.declared.leaf.Leaf.{Leaf}
use Rattle.col_core.specs.Values.{number_leaf}
use Rattle.reduce_model.specs.declared.kind.ReductionKind.TheVariants.{Sum}
use Rattle.reduce_states.specs.States.{total, after}
use Rattle.reduce_states.specs.Moves.{numbered}
use Rattle.reduce_sum.proofs.Totals.{after_next}
use Rattle.reduce_sum.proofs.adding.with_numbers.Goals as goal

pub loop-i-preserved : goal.loop-i-preserved
loop-i-preserved g c = λ t n w.
    let value = g.T.Number.value in
    let vs = map (number_leaf g.S.Number.value) c.args.numbers.now in
    let lt : c.loop-i.i < length vs = omega (arith, length-map c.args.numbers.now (number_leaf g.S.Number.value), c.len-i-end.ensures.len, c.loop-i-test.true) in
    after_next g.T.Number.wrap t (total t (value c.args.sum)) n vs c.loop-i.i (value c.loop-i.sum) (value c.wrapping_add-sum.result) w lt (c.loop-i.invariant t n w)
    (g.met.T.WrappingAdd.wrapping_add_law c.loop-i.sum c.number_at.result c.wrapping_add-sum.result c.wrapping_add-sum.ensures ∙ ap (λ z. g.T.Number.wrap (value c.loop-i.sum +ℤ z)) c.number_at.ensures)

pub returns : goal.returns
returns g c = λ t n w.
    let vs = map (number_leaf g.S.Number.value) c.args.numbers.now in
    c.loop-i.invariant t n w
    ∙ ap (λ (us : List Leaf). after Sum t (total t (g.T.Number.value c.args.sum)) (numbered n us))
    (take_all c.loop-i.i vs (omega (arith, length-map c.args.numbers.now (number_leaf g.S.Number.value), c.len-i-end.ensures.len, c.loop-i-test.false)))
