use Rattle.std.proofs.Common.{◌≡◌, ◌<◌, ℕ, true, length, get_or, slice_index_or, ◌==◌, sym, ap, ◌∙◌, arith}
use Rattle.std.proofs.lemmas.List.{get_or_default}
use Rattle.std.proofs.lemmas.List.Sums.{count_by-le-length}
use Rattle.group_parts.specs.Parts.{dealt}
use Rattle.group_parts.proofs.Places.{at_place}
use Rattle.group_parts.proofs.Dealt.{length-dealt}
use Rattle.group_reduce.specs.Zips.{AllZip-length}
use Rattle.group_reduce.proofs.Kept.{AllZip-at_place, same_part}
use Rattle.col_core.specs.declared.data_type.DataType.{DataType}
use Rattle.reduce_model.specs.declared.kind.ReductionKind.TheVariants.{Sum}
use Rattle.reduce_states.specs.Reductions.{Shape}
use Rattle.reduce_states.specs.States.{total}
use Rattle.reduce_sum.specs.Sums.{form_of, total_states}
use Rattle.reduce_sum.proofs.Totals.{dealt-map}
use Rattle.reduce_sum.proofs.sums.SumReduceGroupedReduction.partition.Goals as goal

pub wrap_all-requires-clause-can : goal.wrap_all-requires-clause-can
wrap_all-requires-clause-can g c = λ k d lt.
    let lists = c.in-Ok.lists.items in
    let is = c.args.partition_idxs.now in
    let vs = c.args.self.totals.items in
    let list = get_or lists k d in
    let inside : k < length c.args.partition_sizes.now = omega (arith, c.in-Ok.ensures.parts) in
    let here : list.items ≡ dealt k is vs = at_place lists k list (λ l. l.items ≡ dealt k is vs) (c.in-Ok.ensures.ok k inside) (get_or_default lists k d list lt) in
    omega (arith, ap length here, length-dealt k is vs c.requires.lengths, count_by-le-length (λ (j : ℕ). j == k) is, c.requires.lengths, c.args.self.small)

pub returns-in-Ok-clause-parts : goal.returns-in-Ok-clause-parts
returns-in-Ok-clause-parts g c = omega (arith, AllZip-length _ c.in-Ok.lists.items c.wrap_all.result.items c.wrap_all.ensures, c.in-Ok.ensures.parts)

pub returns-in-Ok-clause-shapes : goal.returns-in-Ok-clause-shapes
returns-in-Ok-clause-shapes g c = λ p lt.
    let is = c.args.partition_idxs.now in
    let vs = c.args.self.totals.items in
    AllZip-at_place _ c.in-Ok.lists.items c.wrap_all.result.items p (λ list. list.items ≡ dealt p is vs) _ c.wrap_all.ensures (c.in-Ok.ensures.ok p lt)
    (λ list part r h. same_part Sum part.in_dtype c.args.self.in_dtype true (length part.totals.items) (slice_index_or c.args.partition_sizes.now p 0) (form_of g.T.SumType.kept) (r.1 ∙ ap (λ (s : Shape). s.dtype) c.new_empty-empty.ensures.shape)
    (ap length r.0 ∙ ap length h ∙ length-dealt p is vs c.requires.lengths ∙ sym (c.requires.sizes.exact p lt)))

pub returns-in-Ok-clause-ok : goal.returns-in-Ok-clause-ok
returns-in-Ok-clause-ok g c = λ xs h p lt.
    let is = c.args.partition_idxs.now in
    let vs = c.args.self.totals.items in
    let t = c.args.self.in_dtype in
    let value = g.T.Number.value in
    AllZip-at_place _ c.in-Ok.lists.items c.wrap_all.result.items p (λ list. list.items ≡ dealt p is vs) _ c.wrap_all.ensures (c.in-Ok.ensures.ok p lt)
    (λ list part r k. ap (dealt p is) h ∙ dealt-map (λ x. total t (value x)) p is vs ∙ ap (total_states value t) (sym (r.0 ∙ k)) ∙ ap (λ (u : DataType). total_states value u part.totals.items) (sym (r.1 ∙ ap (λ (s : Shape). s.dtype) c.new_empty-empty.ensures.shape)))
