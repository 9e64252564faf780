-- Words that write a number.
use Rattle.std.specs.Prelude.{ℕ, Bool, false, ◌&&◌, not, if◌then◌else◌, ◌==◌, nat_le, List, [], ◌∷◌, length, Option, Some, None}
use Rattle.std.specs.List.{list_all}
use Rattle.std.specs.Char.{is_ascii_digit}
use Rattle.std.specs.Str.Parse.{digits_value}

-- one to six digits, the first of which is not 0
abbrev pub is_numeral : List ℕ → Bool
is_numeral [] = false
is_numeral (b ∷ bs) = not (b == 48) && nat_le (length (b ∷ bs)) 6 && list_all is_ascii_digit (b ∷ bs)

-- the number that a word writes in decimal, from 1 to 100,000
abbrev pub number_of_word : List ℕ → Option ℕ
number_of_word word = if is_numeral word && nat_le (digits_value 10 word) 100000 then Some (digits_value 10 word) else None
