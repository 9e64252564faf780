use Rattle.std.proofs.Common.{◌≡◌, ◌∙◌, ◌&&◌, false, map, length, slice_index_or, sym, ap, ap₂, ℕ, Bool, List, [], ◌∷◌, ◌++◌, zero-add, rules}
use Rattle.std.specs.List.{range_with_len}
use Rattle.std.proofs.lemmas.List.FromFn.{map-range_with_len_more}
use Rattle.join_pairs.proofs.Masks.{both_are}
use Rattle.join_pairs.proofs.mask.both.Goals as goal

pub returns : goal.returns
returns c =
    let a = c.args.a.now in
    let b = c.args.b.now in
    let end : c.loop-i.i ≡ length a = search rules in
    c.freeze.ensures ∙ c.loop-i.invariant
    ∙ ap (λ (n : ℕ). map (λ k. slice_index_or a k false && slice_index_or b k false) (range_with_len 0 n)) end
    ∙ both_are a b c.requires

pub loop-i-preserved : goal.loop-i-preserved
loop-i-preserved c =
    let a = c.args.a.now in
    let b = c.args.b.now in
    c.in_ok-push.ensures.ok
    ∙ ap₂ (λ (bits : List Bool) (bit : Bool). bits ++ bit ∷ []) c.loop-i.invariant c.is_set_in_both.ensures
    ∙ sym (map-range_with_len_more (λ k. slice_index_or a k false && slice_index_or b k false) 0 c.loop-i.i c.loop-i.i (zero-add c.loop-i.i))
