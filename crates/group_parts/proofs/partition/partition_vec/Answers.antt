use Rattle.std.proofs.Common.{rules, ◌≡◌, ◌<◌, ◌≤◌, ◌+◌, length, vec_capacity, slice_index_or, take, drop, get_or, [], ◌∷◌, ◌++◌, refl, sym, ap, ◌∙◌, arith}
use Rattle.std.proofs.lemmas.List.{drop_more}
use Rattle.group_parts.specs.Parts.{dealt}
use Rattle.group_parts.proofs.Dealt.{dealt_yes, dealt_no, length-dealt-lt}
use Rattle.group_parts.proofs.Places.{at_place, each_set}
use Rattle.group_parts.proofs.partition.partition_vec.Goals as goal

pub push_reserved-requires-in-Some : goal.push_reserved-requires-in-Some
push_reserved-requires-in-Some g c =
    let is = c.args.partition_idxs.now in
    let xs = c.args.v.items in
    let i = c.loop-p.p-index in
    let p = get_or is i 0 in
    let lt : p < length c.args.partition_sizes.now = c.requires.sizes.inside i 0 c.loop-p-test.true in
    let fact = at_place c.loop-p.lists.items p c.index_mut.result.now (λ list. (list.items ≡ dealt p (take i is) (take i xs)) × (slice_index_or c.args.partition_sizes.now p 0 ≤ vec_capacity list)) (c.loop-p.invariant.lists p lt) c.index_mut.ensures.value in
    let long : length c.index_mut.result.now.items ≡ length (dealt p (take i is) (take i xs)) = ap length fact.0 in
    let even : length is ≡ length xs = omega arith in
    omega (arith, long, fact.1, length-dealt-lt p is xs i even c.loop-p-test.true refl, c.requires.sizes.exact p lt)

pub loop-p-preserved : goal.loop-p-preserved
loop-p-preserved g c =
    let is = c.args.partition_idxs.now in
    let xs = c.args.v.items in
    let i = c.loop-p.p-index in
    let q = get_or is i 0 in
    let lt : q < length c.args.partition_sizes.now = c.requires.sizes.inside i 0 c.loop-p-test.true in
    let even : length is ≡ length xs = omega arith in
    let inside : i < length xs = omega arith in
    let left : c.in-Some.item ∷ c.next.new.self.rest.items ≡ get_or xs i c.in-Some.item ∷ drop (i + 1) xs = sym c.in-Some.ensures.items ∙ c.loop-p.invariant.rest ∙ drop_more xs i c.in-Some.item inside in
    let item : c.in-Some.item ≡ get_or xs i c.in-Some.item = cc in
    let fact = at_place c.loop-p.lists.items q c.index_mut.result.now (λ list. (list.items ≡ dealt q (take i is) (take i xs)) × (slice_index_or c.args.partition_sizes.now q 0 ≤ vec_capacity list)) (c.loop-p.invariant.lists q lt) c.index_mut.ensures.value in
    record {
      rest = cc;
      many = search rules;
      lists = each_set (length c.args.partition_sizes.now) c.loop-p.lists.items q c.push_reserved-in-Some.new.self
          (λ p list. (list.items ≡ dealt p (take i is) (take i xs)) × (slice_index_or c.args.partition_sizes.now p 0 ≤ vec_capacity list))
          (λ p list. (list.items ≡ dealt p (take (i + 1) is) (take (i + 1) xs)) × (slice_index_or c.args.partition_sizes.now p 0 ≤ vec_capacity list))
          c.loop-p.invariant.lists
          (c.push_reserved-in-Some.ensures.items ∙ ap (λ zs. zs ++ c.in-Some.item ∷ []) fact.0 ∙ ap (λ x. dealt q (take i is) (take i xs) ++ x ∷ []) item ∙ sym (dealt_yes q is xs i c.in-Some.item c.loop-p-test.true inside refl), rw c.push_reserved-in-Some.ensures.capacity fact.1)
          (λ p ne list h. (h.0 ∙ sym (dealt_no p is xs i c.in-Some.item c.loop-p-test.true inside (λ e. ne (sym e))), h.1));
    }
