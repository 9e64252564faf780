use Rattle.std.proofs.Common.{◌≡◌, subst}
use Rattle.col_core.specs.declared.data_type.DataType.{DataType}
use Rattle.reduce_model.specs.declared.kind.ReductionKind.TheVariants.{Sum}
use Rattle.reduce_states.specs.States.{total, after}
use Rattle.reduce_states.specs.Moves.{numbered}
use Rattle.reduce_sum.proofs.Totals.{entered_at-total}
use Rattle.reduce_sum.proofs.sums.SumReduceGroupedReduction.update_group.Goals as goal

pub returns-clause-ok : goal.returns-clause-ok
returns-clause-ok g c = λ xs h.
    let value = g.T.Number.value in
    let es = numbered c.args._seq_id c.args.values.now.values in
    let old = c.index-total.result.now in
    let new = c.with_values.result in
    entered_at-total value c.args.self.now.in_dtype c.args.self.now.totals.items xs c.args.group_idx old new es h c.requires.place c.index-total.ensures
    (subst (λ (d : DataType). total d (value new) ≡ after Sum d (total d (value old)) es) c.requires.dtype (c.with_values.ensures c.args._seq_id))
