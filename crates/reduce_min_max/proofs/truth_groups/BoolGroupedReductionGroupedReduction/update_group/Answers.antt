use Rattle.std.proofs.Common.{List, sym, ap, ◌∙◌, get_or}
use Rattle.std.proofs.Math.ListN.{set}
use Rattle.col_core.specs.declared.data_type.DataType.TheVariants as types
use Rattle.reduce_states.specs.States.{State, present, start, merge, after}
use Rattle.reduce_states.specs.Moves.{numbered}
use Rattle.reduce_min_max.specs.Truths.{truth_states}
use Rattle.reduce_min_max.proofs.Best.{after_merged}
use Rattle.reduce_min_max.proofs.truth_groups.BoolGroupedReductionGroupedReduction.update_group.Goals as goal

pub returns-clause-ok : goal.returns-clause-ok
returns-clause-ok g c = λ xs h.
    let k = g.S.Side.kind in
    let t = types.Boolean in
    let n = c.args._seq_id in
    let vs = c.args.values.now.values in
    let i = c.args.group_idx in
    let held = truth_states c.args.self.now.truths in
    let x = get_or held i (start k t) in
    ap (λ (zs : List State). set zs i (after k t (get_or zs i (start k t)) (numbered n vs))) h
    ∙ ap (set held i) (after_merged k t n x vs g.met.S.Side.kind_law ∙ ap (λ v. merge k t x (present v)) (sym (c.best_truth.ensures t)))
    ∙ sym (c.merge_at.ensures.states t)
