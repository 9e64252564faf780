use Rattle.std.proofs.Common.{◌≡◌, ◌<◌, ◌≤◌, ℕ, true, length, get_or, slice_index_or, ◌==◌, sym, subst, ap, ◌∙◌, arith}
use Rattle.std.specs.List.{AllZip}
use Rattle.std.proofs.lemmas.List.{get_or_default}
use Rattle.std.proofs.lemmas.List.Sums.{count_by-le-length}
use Rattle.group_parts.specs.Parts.{dealt}
use Rattle.group_parts.proofs.Places.{at_place}
use Rattle.group_parts.proofs.Dealt.{length-dealt}
use Rattle.group_reduce.specs.Zips.{AllZip-length}
use Rattle.group_reduce.specs.Reducing.{AllFit}
use Rattle.group_reduce.proofs.Kept.{AllZip-at_place, AllZip-dealt, All-dealt, same_part}
use Rattle.group_reduce.proofs.vectors.VecGroupedReductionGroupedReduction.partition.Goals as goal

pub wrap_all-requires-clause-can : goal.wrap_all-requires-clause-can
wrap_all-requires-clause-can g c = λ k d lt.
    let lists = c.in-Ok.lists.items in
    let is = c.args.partition_idxs.now in
    let vs = c.args.self.values.items in
    let list = get_or lists k d in
    let inside : k < length c.args.partition_sizes.now = omega (arith, c.in-Ok.ensures.parts) in
    let here : list.items ≡ dealt k is vs = at_place lists k list (λ l. l.items ≡ dealt k is vs) (c.in-Ok.ensures.ok k inside) (get_or_default lists k d list lt) in
    let few : length list.items ≤ length vs = omega (arith, ap length here, length-dealt k is vs c.requires.lengths, count_by-le-length (λ (j : ℕ). j == k) is, c.requires.lengths) in (
      omega (arith, few, c.args.self.small),
      subst (λ us. AllFit g.R.Reducer.fits c.args.self.in_dtype us) (sym here) (All-dealt (λ v. g.R.Reducer.fits c.args.self.in_dtype v ≡ true) k is vs c.args.self.fit),
      c.args.self.served,
      c.args.self.told,
    )

pub returns-in-Ok-clause-parts : goal.returns-in-Ok-clause-parts
returns-in-Ok-clause-parts g c = omega (arith, AllZip-length _ c.in-Ok.lists.items c.wrap_all.result.items c.wrap_all.ensures, c.in-Ok.ensures.parts)

pub returns-in-Ok-clause-shapes : goal.returns-in-Ok-clause-shapes
returns-in-Ok-clause-shapes g c = λ p lt.
    let is = c.args.partition_idxs.now in
    let vs = c.args.self.values.items in
    AllZip-at_place _ c.in-Ok.lists.items c.wrap_all.result.items p (λ list. list.items ≡ dealt p is vs) _ c.wrap_all.ensures (c.in-Ok.ensures.ok p lt)
    (λ list part r h. same_part g.R.Reducer.kind part.in_dtype c.args.self.in_dtype g.R.Reducer.FIXED (length part.values.items) (slice_index_or c.args.partition_sizes.now p 0) g.R.Reducer.form r.1
    (ap length r.0 ∙ ap length h ∙ length-dealt p is vs c.requires.lengths ∙ sym (c.requires.sizes.exact p lt)))

pub returns-in-Ok-clause-ok : goal.returns-in-Ok-clause-ok
returns-in-Ok-clause-ok g c = λ xs h p lt.
    let is = c.args.partition_idxs.now in
    let vs = c.args.self.values.items in
    AllZip-at_place _ c.in-Ok.lists.items c.wrap_all.result.items p (λ list. list.items ≡ dealt p is vs) _ c.wrap_all.ensures (c.in-Ok.ensures.ok p lt)
    (λ list part r k. subst (λ zs. AllZip g.R.Reducer.stands zs (dealt p is xs)) (sym (r.0 ∙ k)) (AllZip-dealt g.R.Reducer.stands p is vs xs h))
