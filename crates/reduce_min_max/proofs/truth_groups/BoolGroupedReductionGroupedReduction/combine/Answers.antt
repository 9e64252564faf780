use Rattle.std.proofs.Common.{◌≡◌, ◌<◌, ◌≤◌, List, length, take, get_or, None, sym, ap, ◌∙◌, arith}
use Rattle.col_core.specs.declared.data_type.DataType.TheVariants as types
use Rattle.std.proofs.lemmas.List.{length-map}
use Rattle.reduce_states.specs.Reductions.{Enters}
use Rattle.reduce_min_max.specs.Truths.{truth_state, truth_states}
use Rattle.reduce_min_max.proofs.TruthStates.{state_at, entered_next, entered_all}
use Rattle.reduce_min_max.proofs.truth_groups.BoolGroupedReductionGroupedReduction.combine.Goals as goal

pub loop-i-preserved : goal.loop-i-preserved
loop-i-preserved g c =
    let k = g.S.Side.kind in
    let t = types.Boolean in
    let i = c.loop-i.i in
    let gs = c.args.group_idxs.now in
    let other = c.args.other.now.truths in
    let inside : i < length other = omega (arith, c.requires.lengths) in
    let long : i < length (truth_states other) = omega (arith, inside, length-map other truth_state) in
    record {
      long = c.merge_at.ensures.long ∙ c.loop-i.invariant.long;
      states = entered_next k t (truth_states c.args.self.now.truths) gs (truth_states other) i (truth_states c.loop-i.self.truths) (truth_states c.merge_at.new.self.truths) (truth_state c.get.result) c.loop-i-test.true long
          c.loop-i.invariant.states (ap truth_state c.get.ensures ∙ sym (state_at other i None inside)) (c.merge_at.ensures.states t);
    }

pub returns-clause-ok : goal.returns-clause-ok
unfolding Enters
returns-clause-ok g c = λ xs ys h e.
    let k = g.S.Side.kind in
    let t = types.Boolean in
    let i = c.loop-i.i in
    let gs = c.args.group_idxs.now in
    let other = c.args.other.now.truths in
    let done : length gs ≤ i = omega arith in
    let long : length (truth_states other) ≤ i = omega (arith, length-map other truth_state, c.requires.lengths) in
    entered_all k t xs (truth_states c.args.self.now.truths) gs ys (truth_states other) (truth_states c.loop-i.self.truths) i h e done long c.loop-i.invariant.states
