use Rattle.std.proofs.Common.{rules, ◌≡◌, ◌<◌, ◌+◌, Bool, false, List, length, take, get_or, [], ◌∷◌, ◌++◌, refl, sym, ap, ◌∙◌, arith}
use Rattle.group_parts.specs.Parts.{dealt}
use Rattle.group_parts.proofs.Dealt.{dealt_yes, dealt_no}
use Rattle.group_parts.proofs.Places.{at_place, each_set}
use Rattle.group_parts.proofs.partition.partition_mask.Goals as goal

pub loop-p-init : goal.loop-p-init
loop-p-init c = record {
  index = search rules;
  many = omega arith;
  masks = λ p lt. c.loop-n.invariant.empty p (omega arith);
}

pub loop-p-preserved : goal.loop-p-preserved
loop-p-preserved c =
    let is = c.args.partition_idxs.now in
    let xs = c.args.m.now in
    let i = c.loop-p.p-index in
    let q = get_or is i 0 in
    let lt : q < length c.args.partition_sizes.now = c.requires.sizes.inside i 0 c.loop-p-test.true in
    let inside : i < length xs = omega arith in
    let bit : c.get.result ≡ get_or xs i false = rw (← c.loop-p.invariant.index) c.get.ensures in
    let now : c.index_mut.result.now ≡ dealt q (take i is) (take i xs) = at_place c.loop-p.masks.items q c.index_mut.result.now (λ (mask : List Bool). mask ≡ dealt q (take i is) (take i xs)) (c.loop-p.invariant.masks q lt) c.index_mut.ensures.value in
    record {
      index = omega arith;
      many = search rules;
      masks = each_set (length c.args.partition_sizes.now) c.loop-p.masks.items q c.push-in-loop-p.new.self
          (λ p (mask : List Bool). mask ≡ dealt p (take i is) (take i xs))
          (λ p (mask : List Bool). mask ≡ dealt p (take (i + 1) is) (take (i + 1) xs))
          c.loop-p.invariant.masks
          (c.in_ok-push-2.ensures.ok ∙ ap (λ (zs : List Bool). zs ++ c.get.result ∷ []) now ∙ ap (λ (x : Bool). dealt q (take i is) (take i xs) ++ x ∷ []) bit ∙ sym (dealt_yes q is xs i false c.loop-p-test.true inside refl))
          (λ p ne mask h. h ∙ sym (dealt_no p is xs i false c.loop-p-test.true inside (λ e. ne (sym e))));
    }
