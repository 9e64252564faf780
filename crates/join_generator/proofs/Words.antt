-- What `parse` gives of a word that is a numeral.
use Rattle.std.proofs.Common.{◌≡◌, ◌≢◌, ap, sym, ℕ, ◌+◌, ◌<◌, ◌≤◌, ◌^◌, leb, Bool, true, false, not, ◌&&◌, ◌==◌, List, [], ◌∷◌, length, Result, Ok, ◌∙◌, rules, arith}
use Rattle.std.specs.List.{list_all}
use Rattle.std.specs.Char.{is_ascii_digit, digit_value}
use Rattle.std.specs.Int.{IsInRange}
use Rattle.std.specs.Str.Parse.{digits_value, ParsesUnsigned}
use Rattle.std.proofs.lemmas.Bool.{leb-true, false≢true}
use Rattle.std.proofs.lemmas.Str.Parse.{IsNumeralModel, numerals_by_value, parse_gives, digits_value_short, digits_value-take-le}
use Rattle.std.proofs.lemmas.Str.{digit_value_digit}
use Rattle.list_laws.proofs.Halves.{both}
use Rattle.join_generator.specs.Words.{is_numeral}

pub own : IsNumeralModel (λ ds. list_all is_ascii_digit ds ≡ true) (digits_value 10)
own = numerals_by_value _ (search rules)

pub numeral_parts : (word : List ℕ) → is_numeral word ≡ true → (0 < length word) × (length word ≤ 6) × (list_all is_ascii_digit word ≡ true)
numeral_parts [] h = absurd (false≢true h)
numeral_parts (b ∷ bs) h =
    let parts = both (not (b == 48) && leb (length (b ∷ bs)) 6) (list_all is_ascii_digit (b ∷ bs)) h in
    let short = leb-true (length (b ∷ bs)) 6 (both (not (b == 48)) (leb (length (b ∷ bs)) 6) parts.0).1 in
    (omega arith, short, parts.1)

-- it writes no zero, as its first digit is none
pub numeral_positive : (word : List ℕ) → is_numeral word ≡ true → 0 < digits_value 10 word
numeral_positive [] h = absurd (false≢true h)
numeral_positive (b ∷ bs) h =
    let parts = both (not (b == 48) && leb (length (b ∷ bs)) 6) (list_all is_ascii_digit (b ∷ bs)) h in
    let other = both (not (b == 48)) (leb (length (b ∷ bs)) 6) parts.0 in
    let digit : IsInRange 48 57 b = search (rules, (both (is_ascii_digit b) (list_all is_ascii_digit bs) parts.1).0) in
    let nonzero : b ≢ 48 = λ e. false≢true (ap (λ (k : ℕ). not (k == 48)) (sym e) ∙ other.0) in
    let front : 0 + digit_value b ≤ digits_value 10 (b ∷ bs) = digits_value-take-le 10 (b ∷ bs) 1 (omega arith) in
    omega (arith, digit_value_digit b digit, nonzero, front)

pub parsed : {E : Type 0} (word : List ℕ) (r : Result ℕ E) → ParsesUnsigned 32 10 word r → is_numeral word ≡ true → r ≡ Ok (digits_value 10 word)
parsed word r p h =
    let parts = numeral_parts word h in
    parse_gives own 32 word r p parts.2 parts.0 (omega (arith, digits_value_short own word 6 parts.2 parts.1))
