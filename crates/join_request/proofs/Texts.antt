-- Texts of whole numbers.
use Rattle.std.proofs.Common.{◌≡◌, ◌<◌, ◌≤◌, ◌^◌, ◌&&◌, nat_le, inl, inr, ℕ, ℤ, pos, negsuc, Bool, true, false, List, [], ◌∷◌, length, None, FitsSigned, eqb, refl, sym, subst, arith, rules}
use Rattle.std.specs.Char.{is_ascii_digit}
use Rattle.std.specs.Int.{w128}
use Rattle.std.specs.List.{list_all}
use Rattle.std.specs.Str.Parse.{IsNumeral, digits_value, signed_digits_value, without_leading_sign}
use Rattle.std.proofs.lemmas.Str.Parse.{IsNumeralModel, numerals_by_value}
use Rattle.std.proofs.lemmas.Bool.Decides.{nat_tests, eqb_tells, leb_tells}
use Rattle.std.proofs.lemmas.Bool.{ne_eqb}
use Rattle.col_core.specs.declared.data_type.DataType.TheVariants.{Int128}
use Rattle.join_request.specs.Leaves.{without_minus, is_whole_text, whole_of_text, in_range_of}

own : IsNumeralModel (λ ds. list_all is_ascii_digit ds ≡ true) (digits_value 10)
own = numerals_by_value _ (search rules)

-- the digits of a text, as the parser takes them
digit_bounds : (c : ℕ) (b : Bool) → (is_ascii_digit c && b) ≡ true → (48 ≤ c) × (c ≤ 57)
digit_bounds c b h = (grind (arith, nat_tests), grind (arith, nat_tests))

same_digits : (text : List ℕ) → list_all is_ascii_digit (without_minus text) ≡ true → without_leading_sign text ≡ without_minus text
same_digits [] h = refl
same_digits (c ∷ cs) h =
    elim (eqb_tells c 45) [
      | inl minus ↦ subst (λ (x : ℕ). without_leading_sign (x ∷ cs) ≡ without_minus (x ∷ cs)) (sym minus.1) refl
      | inr plain ↦
          let front : eqb 45 c ≡ false = ne_eqb 45 c (λ e. plain.1 (sym e)) in
          let digits : (is_ascii_digit c && list_all is_ascii_digit cs) ≡ true = rw front at h in
          let bounds = digit_bounds c (list_all is_ascii_digit cs) digits in
          let no_plus : eqb c 43 ≡ false = ne_eqb c 43 (λ e. absurd (omega (arith, bounds.0, e))) in
          rw (plain.0, front, no_plus) refl
    ]

whole_parts : (digits : List ℕ) (b : Bool) → (b && (nat_le 1 (length digits) && nat_le (length digits) 39)) ≡ true → (b ≡ true) × (0 < length digits)
whole_parts digits true h = (refl, grind (arith, nat_tests))
whole_parts digits false h = absurd (cc)

out_of_range : (z : ℤ) → (FitsSigned w128 z → ⊥) → in_range_of Int128 z ≡ None
out_of_range (pos n) h = let over : 2 ^ 127 ≤ n = elim (leb_tells (2 ^ 127) n) [ inl y ↦ y.1 | inr y ↦ absurd (h (record { sfits = y.1 })) ] in grind (arith, nat_tests)
out_of_range (negsuc n) h = let over : 2 ^ 127 ≤ n = elim (leb_tells (2 ^ 127) n) [ inl y ↦ y.1 | inr y ↦ absurd (h (record { sfits = y.1 })) ] in grind (arith, nat_tests)

-- where the parser refuses digits, it is for their number
pub not_whole : (text : List ℕ) → is_whole_text text ≡ true → ¬ (IsNumeral 10 (without_leading_sign text) × FitsSigned w128 (signed_digits_value 10 text)) → whole_of_text text ≡ None
not_whole text is h =
    let digits = without_minus text in
    let whole = whole_parts digits (list_all is_ascii_digit digits) is in
    let numeral : IsNumeral 10 digits = (whole.1, own.to digits whole.0) in
    rw is (out_of_range (signed_digits_value 10 text) (λ fits. h (subst (IsNumeral 10) (sym (same_digits text whole.0)) numeral, fits)))
