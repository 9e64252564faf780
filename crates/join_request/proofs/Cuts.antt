-- Texts that are cut: at a comma, before what stands at their end, or after what stands at their front.
use Rattle.std.proofs.Common.{◌≡◌, ℕ, List, true, false, Option, Some, None, MatchOption, option_map, length, ◌-◌, sym, subst, arith}
use Rattle.std.specs.Str.{IsCharBoundary}
use Rattle.std.specs.Str.Pattern.{FindsTextPrefix, FindsTextSuffix, StripsPrefix, StripsSuffix}
use Rattle.std.proofs.lemmas.Str.Pattern.{IsSplitOnceResult, split_once_first, starts_text, ends_text}
use Rattle.std.proofs.lemmas.Bool.Decides.{nat_tests}
use denote.Ref.{Bor}
use Rattle.join_request.specs.Types.{comma_parts, without_front, without_back}

pub parts_at_comma : (text : List ℕ) (r : Option (Bor (List ℕ) × Bor (List ℕ))) → IsSplitOnceResult 44 text r → option_map (λ x. (x.0.now, x.1.now)) r ≡ comma_parts text
parts_at_comma text None h = let e = split_once_first 44 text None h (omega arith) in grind (arith, nat_tests, e)
parts_at_comma text (Some x) h = let e = split_once_first 44 text (Some x) h (omega arith) in grind (arith, nat_tests, e)

pub back_cut : (back text : List ℕ) (r : Option (Bor (List ℕ))) → MatchOption r (FindsTextSuffix back text None) (λ x. StripsSuffix (FindsTextSuffix back) text x.now) → option_map (λ x. x.now) r ≡ without_back back text
back_cut back text None h = rw (← ends_text false back text h)
back_cut back text (Some x) h =
    let boundary = subst (λ (k : ℕ). IsCharBoundary text (length text - k)) (sym h.1.0) h.1.2 in
    rw (← ends_text true back text (h.0, h.1, omega (arith, h.3), boundary), h.2, h.1.0)

pub front_cut : (front text : List ℕ) (r : Option (Bor (List ℕ))) → MatchOption r (FindsTextPrefix front text None) (λ x. StripsPrefix (FindsTextPrefix front) text x.now) → option_map (λ x. x.now) r ≡ without_front front text
front_cut front text None h = rw (← starts_text false front text h)
front_cut front text (Some x) h =
    let boundary = subst (λ (k : ℕ). IsCharBoundary text k) (sym h.1.0) h.1.2 in
    rw (← starts_text true front text (h.0, h.1, boundary), h.2, h.1.0)
