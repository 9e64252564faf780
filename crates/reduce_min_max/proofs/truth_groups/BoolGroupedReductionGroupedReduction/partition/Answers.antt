use Rattle.std.proofs.Common.{◌≡◌, ◌<◌, ◌≤◌, ℕ, true, length, get_or, slice_index_or, ◌==◌, sym, ap, ◌∙◌, arith}
use Rattle.std.proofs.lemmas.List.{get_or_default}
use Rattle.std.proofs.lemmas.List.Sums.{count_by-le-length}
use Rattle.col_core.specs.declared.data_type.DataType.TheVariants as types
use Rattle.group_parts.specs.Parts.{dealt}
use Rattle.group_parts.proofs.Places.{at_place}
use Rattle.group_parts.proofs.Dealt.{length-dealt}
use Rattle.group_reduce.specs.Zips.{AllZip-length}
use Rattle.group_reduce.proofs.Kept.{AllZip-at_place, same_shape}
use Rattle.reduce_min_max.specs.Truths.{truth_form}
use Rattle.reduce_min_max.proofs.TruthStates.{dealt_states}
use Rattle.reduce_min_max.proofs.truth_groups.BoolGroupedReductionGroupedReduction.partition.Goals as goal

pub wrap_all-requires-clause-can : goal.wrap_all-requires-clause-can
wrap_all-requires-clause-can g c = λ k d lt.
    let lists = c.in-Ok.lists.items in
    let is = c.args.partition_idxs.now in
    let truths = c.args.self.truths in
    let list = get_or lists k d in
    let inside : k < length c.args.partition_sizes.now = omega (arith, c.in-Ok.ensures.parts) in
    let here : list ≡ dealt k is truths = at_place lists k list (λ l. l ≡ dealt k is truths) (c.in-Ok.ensures.ok k inside) (get_or_default lists k d list lt) in
    omega (arith, ap length here, length-dealt k is truths c.requires.lengths, count_by-le-length (λ (j : ℕ). j == k) is, c.requires.lengths, c.args.self.small)

pub returns-in-Ok-clause-parts : goal.returns-in-Ok-clause-parts
returns-in-Ok-clause-parts g c = omega (arith, AllZip-length _ c.in-Ok.lists.items c.wrap_all.result.items c.wrap_all.ensures, c.in-Ok.ensures.parts)

pub returns-in-Ok-clause-shapes : goal.returns-in-Ok-clause-shapes
returns-in-Ok-clause-shapes g c = λ p lt.
    let is = c.args.partition_idxs.now in
    let truths = c.args.self.truths in
    AllZip-at_place _ c.in-Ok.lists.items c.wrap_all.result.items p (λ list. list ≡ dealt p is truths) _ c.wrap_all.ensures (c.in-Ok.ensures.ok p lt)
    (λ list part r h. same_shape g.S.Side.kind types.Boolean true (length part.truths) (slice_index_or c.args.partition_sizes.now p 0) truth_form
    (ap length (r ∙ h) ∙ length-dealt p is truths c.requires.lengths ∙ sym (c.requires.sizes.exact p lt)))

pub returns-in-Ok-clause-ok : goal.returns-in-Ok-clause-ok
returns-in-Ok-clause-ok g c = λ xs h p lt.
    let is = c.args.partition_idxs.now in
    let truths = c.args.self.truths in
    AllZip-at_place _ c.in-Ok.lists.items c.wrap_all.result.items p (λ list. list ≡ dealt p is truths) _ c.wrap_all.ensures (c.in-Ok.ensures.ok p lt)
    (λ list part r k. dealt_states p is truths part.truths xs (r ∙ k) h)
