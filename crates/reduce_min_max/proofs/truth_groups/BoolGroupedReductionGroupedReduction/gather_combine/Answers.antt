use Rattle.std.proofs.Common.{◌≡◌, ◌<◌, ◌≤◌, List, length, take, get_or, None, sym, ap, ◌∙◌, arith}
use Rattle.col_core.specs.declared.data_type.DataType.TheVariants as types
use Rattle.std.proofs.lemmas.List.{length-map}
use Rattle.reduce_states.specs.States.{State, start}
use Rattle.reduce_states.specs.Moves.{states_at}
use Rattle.reduce_states.specs.Reductions.{Enters, Gathered}
use Rattle.reduce_states.proofs.Moved.{get_or-states_at}
use Rattle.reduce_min_max.specs.Truths.{truth_state, truth_states}
use Rattle.reduce_min_max.proofs.TruthStates.{state_at, entered_next, entered_all}
use Rattle.reduce_min_max.proofs.truth_groups.BoolGroupedReductionGroupedReduction.gather_combine.Goals as goal

pub loop-i-preserved : goal.loop-i-preserved
loop-i-preserved g c =
    let k = g.S.Side.kind in
    let t = types.Boolean in
    let i = c.loop-i.i in
    let gs = c.args.group_idxs.now in
    let subset = c.args.subset.now in
    let other = c.args.other.now.truths in
    let ys = states_at k t (truth_states other) subset in
    let inside : i < length subset = omega (arith, c.requires.lengths) in
    let from : get_or subset i 0 < length other = c.requires.from i 0 inside in
    let long : i < length ys = omega (arith, inside, length-map subset (λ j. get_or (truth_states other) j (start k t))) in
    record {
      long = c.merge_at.ensures.long ∙ c.loop-i.invariant.long;
      states = entered_next k t (truth_states c.args.self.now.truths) gs ys i (truth_states c.loop-i.self.truths) (truth_states c.merge_at.new.self.truths) (truth_state c.get.result) c.loop-i-test.true long
          c.loop-i.invariant.states (ap truth_state c.get.ensures ∙ sym (get_or-states_at k t (truth_states other) subset i None inside ∙ state_at other (get_or subset i 0) (start k t) from)) (c.merge_at.ensures.states t);
    }

pub returns-clause-ok : goal.returns-clause-ok
unfolding Enters Gathered
returns-clause-ok g c = λ xs ys h e.
    let k = g.S.Side.kind in
    let t = types.Boolean in
    let i = c.loop-i.i in
    let gs = c.args.group_idxs.now in
    let subset = c.args.subset.now in
    let other = c.args.other.now.truths in
    let all = states_at k t (truth_states other) subset in
    let done : length gs ≤ i = omega arith in
    let long : length all ≤ i = omega (arith, length-map subset (λ j. get_or (truth_states other) j (start k t)), c.requires.lengths) in
    entered_all k t xs (truth_states c.args.self.now.truths) gs ys all (truth_states c.loop-i.self.truths) i h (e.2 ∙ ap (λ (zs : List State). states_at k t zs subset) e.1) done long c.loop-i.invariant.states
