use Rattle.std.proofs.Common.{◌≡◌, sym, ap, ap₂, subst, ◌∙◌, List, length}
use Rattle.std.proofs.lemmas.List.{with_items_is}
use Rattle.col_core.specs.declared.data_type.DataType.{DataType}
use Rattle.reduce_model.specs.declared.kind.ReductionKind.TheVariants.{Sum}
use Rattle.reduce_states.specs.States.{State, start, merge}
use Rattle.reduce_states.specs.Moves.{entered, ones}
use Rattle.reduce_states.specs.Reductions.{Enters, OnesOf}
use Rattle.reduce_sum.specs.Sums.{total_states}
use Rattle.reduce_sum.proofs.sums.SumReduceGroupedReduction.update_groups.Goals as goal

pub returns-clause-ok : goal.returns-clause-ok
unfolding Enters OnesOf
returns-clause-ok g c = λ xs ys h k.
    let t = c.args.self.now.in_dtype in
    let value = g.T.Number.value in
    let gs = c.args.group_idxs.now in
    let vs = c.args.values.now.values in
    let n = c.args._seq_id in
    ap₂ (λ (us zs : List State). entered (start Sum t) (merge Sum t) us gs zs) (h ∙ ap (total_states value t) (sym c.deref_mut.ensures.value)) k
    ∙ sym (subst (λ (d : DataType). total_states value d c.add_values.new.totals ≡ entered (start Sum d) (merge Sum d) (total_states value d c.deref_mut.result.now) gs (ones Sum d n vs)) c.requires.dtype (c.add_values.ensures.entered n))
    ∙ sym (ap (total_states value t) (with_items_is c.args.self.now.totals c.add_values.new.totals (c.add_values.ensures.long ∙ ap length c.deref_mut.ensures.value ∙ sym c.args.self.now.totals.ok.0)))
