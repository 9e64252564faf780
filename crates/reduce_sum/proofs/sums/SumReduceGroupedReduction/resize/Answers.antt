use Rattle.std.proofs.Common.{take, sym, ap, ◌∙◌, arith}
use Rattle.std.proofs.lemmas.List.{take-map}
use Rattle.reduce_model.specs.declared.kind.ReductionKind.TheVariants.{Sum}
use Rattle.reduce_states.specs.States.{total, start}
use Rattle.reduce_states.proofs.Moved.{cut_or_filled-cut}
use Rattle.reduce_sum.specs.Sums.{total_states, total_states_length}
use Rattle.reduce_sum.proofs.sums.SumReduceGroupedReduction.resize.Goals as goal

pub returns-then-wanted-held-clause-ok : goal.returns-then-wanted-held-clause-ok
returns-then-wanted-held-clause-ok g c = λ xs h.
    let t = c.args.self.now.in_dtype in
    let value = g.T.Number.value in
    let totals = c.args.self.now.totals.items in
    let n = c.args.num_groups in
    cut_or_filled-cut (start Sum t) xs n (omega (arith, total_states_length value t totals xs h, c.len-held.ensures, c.if-wanted-held.true))
    ∙ ap (take n) h ∙ take-map (λ x. total t (value x)) n totals ∙ ap (total_states value t) (sym c.truncate.ensures.items)
