use Rattle.std.proofs.Common.{◌<◌, ℕ, List, length, take, get_or, ap, ◌∙◌, rules, arith}
use Rattle.std.proofs.lemmas.List.{take_all}
use Rattle.reduce_model.specs.declared.kind.ReductionKind.TheVariants.{Sum}
use Rattle.reduce_states.specs.States.{start, merge}
use Rattle.reduce_states.specs.Moves.{entered}
use Rattle.reduce_sum.specs.Sums.{total_states}
use Rattle.reduce_sum.proofs.Totals.{states_next}
use Rattle.reduce_sum.proofs.adding.add_each.Goals as goal

pub loop-i-preserved : goal.loop-i-preserved
loop-i-preserved g c =
    let i = c.loop-i.i in
    let gs = c.args.group_idxs.now in
    let value = g.T.Number.value in
    let here : get_or gs i 0 < length c.loop-i.totals = omega (arith, c.requires.places i 0 c.loop-i-test.true, c.loop-i.invariant.long) in
    record {
      long = search rules;
      states = λ t ys w long given.
          states_next value g.T.Number.wrap t c.loop-i.totals (total_states value t c.args.totals.now) gs ys i c.index-totals-g.result c.wrapping_add.result (value c.number.result)
          w (c.loop-i.invariant.states t ys w long given) c.loop-i-test.true (omega (arith, long, c.loop-i-test.true)) here c.index-totals-g.is
          (given i c.number.result c.loop-i-test.true c.number.ensures)
          (g.met.T.WrappingAdd.wrapping_add_law c.index-totals-g.result c.number.result c.wrapping_add.result c.wrapping_add.ensures);
    }

pub returns-clause-entered : goal.returns-clause-entered
returns-clause-entered g c = λ t ys w long given.
    let i = c.loop-i.i in
    let gs = c.args.group_idxs.now in
    let M = entered (start Sum t) (merge Sum t) (total_states g.T.Number.value t c.args.totals.now) in
    c.loop-i.invariant.states t ys w long given
    ∙ ap (λ (hs : List ℕ). M hs (take i ys)) (take_all i gs c.loop-i-test.false)
    ∙ ap (M gs) (take_all i ys (omega (arith, long, c.loop-i-test.false)))
