use Rattle.std.proofs.Common.{rules, ◌≡◌, ◌<◌, ◌+◌, Bool, Option, None, List, length, take, get_or, [], ◌∷◌, ◌++◌, sym, ap, ◌∙◌, refl, arith}
use Rattle.group_parts.specs.Parts.{dealt}
use Rattle.group_parts.proofs.Dealt.{dealt_yes, dealt_no}
use Rattle.group_parts.proofs.Places.{at_place, each_set}
use Rattle.reduce_min_max.proofs.truths.Truths.dealt.Goals as goal

pub loop-i-preserved : goal.loop-i-preserved
loop-i-preserved c =
    let is = c.args.partition_idxs.now in
    let xs = c.args.self.now in
    let i = c.loop-i.i in
    let q = get_or is i 0 in
    let lt : q < length c.args.partition_sizes.now = c.requires.sizes.inside i 0 c.loop-i-test.true in
    let inside : i < length xs = omega (arith, c.requires.lengths) in
    let now : c.index_mut.result.now ≡ dealt q (take i is) (take i xs) =
    at_place c.loop-i.parts.items q c.index_mut.result.now (λ part. part ≡ dealt q (take i is) (take i xs)) (c.loop-i.invariant.parts q lt) c.index_mut.ensures.value in
    record {
      many = search rules;
      parts = each_set (length c.args.partition_sizes.now) c.loop-i.parts.items q c.push.new.self
          (λ p part. part ≡ dealt p (take i is) (take i xs)) (λ p part. part ≡ dealt p (take (i + 1) is) (take (i + 1) xs)) c.loop-i.invariant.parts
          (c.in_ok-push.ensures.ok ∙ ap (λ zs. zs ++ c.get.result ∷ []) now ∙ ap (λ x. dealt q (take i is) (take i xs) ++ x ∷ []) c.get.ensures ∙ sym (dealt_yes q is xs i None c.loop-i-test.true inside refl))
          (λ p ne part h. h ∙ sym (dealt_no p is xs i None c.loop-i-test.true inside (λ e. ne (sym e))));
    }
