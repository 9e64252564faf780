use Rattle.std.proofs.Common.{sym, ap, ap₂, ◌∙◌, List, length}
use Rattle.std.proofs.lemmas.List.{with_items_is}
use Rattle.col_core.specs.declared.data_type.DataType.{DataType}
use Rattle.reduce_model.specs.declared.kind.ReductionKind.TheVariants.{Sum}
use Rattle.reduce_states.specs.States.{State, start, merge}
use Rattle.reduce_states.specs.Moves.{entered}
use Rattle.reduce_states.specs.Reductions.{Enters}
use Rattle.reduce_sum.specs.Sums.{total_states}
use Rattle.reduce_sum.proofs.Kept.{kept_wraps}
use Rattle.reduce_sum.proofs.sums.SumReduceGroupedReduction.combine.Goals as goal

pub returns-clause-ok : goal.returns-clause-ok
unfolding Enters
returns-clause-ok g c = λ xs ys h k.
    let t = c.args.self.now.in_dtype in
    let value = g.T.Number.value in
    let wraps = kept_wraps t g.T.SumType.kept g.T.Number.wrap c.args.self.now.sums c.args.self.now.kept g.met.T.SumType.whole_law g.met.T.SumType.wrap_as_law in
    ap₂ (λ (us zs : List State). entered (start Sum t) (merge Sum t) us c.args.group_idxs.now zs)
    (h ∙ ap (total_states value t) (sym c.deref_mut.ensures.value))
    (k ∙ ap (λ (u : DataType). total_states value u c.args.other.now.totals.items) (sym c.requires.alike.1) ∙ ap (total_states value t) (sym c.deref.ensures.value))
    ∙ sym (c.add_totals.ensures.entered t wraps)
    ∙ sym (ap (total_states value t) (with_items_is c.args.self.now.totals c.add_totals.new.totals (c.add_totals.ensures.long ∙ ap length c.deref_mut.ensures.value ∙ sym c.args.self.now.totals.ok.0)))
