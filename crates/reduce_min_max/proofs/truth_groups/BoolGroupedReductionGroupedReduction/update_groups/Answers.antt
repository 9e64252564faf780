use Rattle.std.proofs.Common.{◌≡◌, ◌<◌, ◌≤◌, List, length, take, get_or, None, sym, ap, ◌∙◌, arith}
use Rattle.col_core.specs.declared.data_type.DataType.TheVariants as types
use Rattle.reduce_states.specs.States.{present}
use Rattle.reduce_states.specs.Moves.{ones}
use Rattle.reduce_states.specs.Reductions.{Enters, OnesOf}
use Rattle.reduce_states.proofs.Moved.{length-ones, get_or-ones}
use Rattle.col_core.specs.Values.{value_at}
use Rattle.reduce_min_max.proofs.Best.{one_present}
use Rattle.reduce_min_max.specs.Truths.{truth_state, truth_states}
use Rattle.reduce_min_max.proofs.TruthStates.{entered_next, entered_all}
use Rattle.reduce_min_max.proofs.truth_groups.BoolGroupedReductionGroupedReduction.update_groups.Goals as goal

pub loop-i-preserved : goal.loop-i-preserved
loop-i-preserved g c =
    let k = g.S.Side.kind in
    let t = types.Boolean in
    let i = c.loop-i.i in
    let gs = c.args.group_idxs.now in
    let n = c.args._seq_id in
    let vs = c.args.values.now.values in
    let ys = ones k t n vs in
    let inside : i < length vs = omega (arith, c.requires.lengths) in
    let long : i < length ys = omega (arith, inside, length-ones k t n vs) in
    record {
      long = c.merge_at.ensures.long ∙ c.loop-i.invariant.long;
      states = entered_next k t (truth_states c.args.self.now.truths) gs ys i (truth_states c.loop-i.self.truths) (truth_states c.merge_at.new.self.truths) (truth_state c.truth_of.result) c.loop-i-test.true long
          c.loop-i.invariant.states (ap present (c.truth_of.ensures ∙ c.leaf_ref.ensures.value) ∙ sym (one_present k t n (value_at vs i) g.met.S.Side.kind_law) ∙ sym (get_or-ones k t n vs i None inside)) (c.merge_at.ensures.states t);
    }

pub returns-clause-ok : goal.returns-clause-ok
unfolding Enters OnesOf
returns-clause-ok g c = λ xs ys h e.
    let k = g.S.Side.kind in
    let t = types.Boolean in
    let i = c.loop-i.i in
    let gs = c.args.group_idxs.now in
    let all = ones k t c.args._seq_id c.args.values.now.values in
    let done : length gs ≤ i = omega arith in
    let long : length all ≤ i = omega (arith, length-ones k t c.args._seq_id c.args.values.now.values, c.requires.lengths) in
    entered_all k t xs (truth_states c.args.self.now.truths) gs ys all (truth_states c.loop-i.self.truths) i h e done long c.loop-i.invariant.states
