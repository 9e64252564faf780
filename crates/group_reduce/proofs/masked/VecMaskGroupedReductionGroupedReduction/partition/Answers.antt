use Rattle.std.proofs.Common.{◌≡◌, ◌<◌, ◌≤◌, ℕ, true, length, get_or, slice_index_or, ◌==◌, sym, subst, ap, ◌∙◌, arith}
use Rattle.std.proofs.lemmas.List.{get_or_default}
use Rattle.std.proofs.lemmas.List.Sums.{count_by-le-length}
use Rattle.group_parts.specs.Parts.{dealt}
use Rattle.group_parts.proofs.Places.{at_place}
use Rattle.group_parts.proofs.Dealt.{length-dealt}
use Rattle.group_reduce.specs.Zips.{AllZip-length}
use Rattle.group_reduce.specs.Reducing.{AllFit}
use Rattle.group_reduce.proofs.Kept.{AllZip-at_place, All-dealt, same_part}
use Rattle.group_reduce.proofs.Bits.{masked_dealt}
use Rattle.group_reduce.proofs.masked.VecMaskGroupedReductionGroupedReduction.partition.Goals as goal

pub wrap_all-requires-clause-can : goal.wrap_all-requires-clause-can
wrap_all-requires-clause-can g c = λ k d lt.
    let pairs = c.in-Ok.pairs.items in
    let is = c.args.partition_idxs.now in
    let vs = c.args.self.values.items in
    let bits = c.freeze-bits.result in
    let pair = get_or pairs k d in
    let inside : k < length c.args.partition_sizes.now = omega (arith, c.in-Ok.ensures.parts) in
    let here : (pair.0.items ≡ dealt k is vs) × (pair.1 ≡ dealt k is bits) = at_place pairs k pair (λ z. (z.0.items ≡ dealt k is vs) × (z.1 ≡ dealt k is bits)) (c.in-Ok.ensures.ok k inside) (get_or_default pairs k d pair lt) in
    let long : length is ≡ length bits = omega (arith, c.requires.lengths, ap length c.freeze-bits.ensures, c.args.self.paired) in
    let few : length pair.0.items ≤ length vs = omega (arith, ap length here.0, length-dealt k is vs c.requires.lengths, count_by-le-length (λ (j : ℕ). j == k) is, c.requires.lengths) in
    let same : length pair.1 ≡ length pair.0.items = omega (arith, ap length here.0, ap length here.1, length-dealt k is vs c.requires.lengths, length-dealt k is bits long) in (
      omega (arith, few, c.args.self.small),
      same,
      subst (λ us. AllFit g.R.Reducer.fits c.args.self.in_dtype us) (sym here.0) (All-dealt (λ v. g.R.Reducer.fits c.args.self.in_dtype v ≡ true) k is vs c.args.self.fit),
      c.args.self.served,
      c.args.self.skips,
    )

pub returns-in-Ok-clause-parts : goal.returns-in-Ok-clause-parts
returns-in-Ok-clause-parts g c = omega (arith, AllZip-length _ c.in-Ok.pairs.items c.wrap_all.result.items c.wrap_all.ensures, c.in-Ok.ensures.parts)

pub returns-in-Ok-clause-shapes : goal.returns-in-Ok-clause-shapes
returns-in-Ok-clause-shapes g c = λ p lt.
    let is = c.args.partition_idxs.now in
    let vs = c.args.self.values.items in
    let bits = c.freeze-bits.result in
    AllZip-at_place _ c.in-Ok.pairs.items c.wrap_all.result.items p (λ pair. (pair.0.items ≡ dealt p is vs) × (pair.1 ≡ dealt p is bits)) _ c.wrap_all.ensures (c.in-Ok.ensures.ok p lt)
    (λ pair part r h. same_part g.R.Reducer.kind part.in_dtype c.args.self.in_dtype g.R.Reducer.FIXED (length part.values.items) (slice_index_or c.args.partition_sizes.now p 0) g.R.Reducer.form r.2
    (ap length r.0 ∙ ap length h.0 ∙ length-dealt p is vs c.requires.lengths ∙ sym (c.requires.sizes.exact p lt)))

pub returns-in-Ok-clause-ok : goal.returns-in-Ok-clause-ok
returns-in-Ok-clause-ok g c = λ xs h p lt.
    let is = c.args.partition_idxs.now in
    let vs = c.args.self.values.items in
    let bits = c.freeze-bits.result in
    AllZip-at_place _ c.in-Ok.pairs.items c.wrap_all.result.items p (λ pair. (pair.0.items ≡ dealt p is vs) × (pair.1 ≡ dealt p is bits)) _ c.wrap_all.ensures (c.in-Ok.ensures.ok p lt)
    (λ pair part r k. masked_dealt g.R.Reducer.stands vs part.values.items c.args.self.mask bits part.mask xs p is h c.freeze-bits.ensures (r.0 ∙ k.0) (r.1 ∙ k.1))
