-- Words that are no command.
use Rattle.std.proofs.Common.{◌≡◌, ◌≢◌, List, [], ◌∷◌, length, None, refl}
use Rattle.std.specs.Prelude.{String}
use Rattle.join_command.specs.Commands.{command_of}

pub other_words : {Z : Type 0} (words : List (String Z)) → length words ≢ 0 → length words ≢ 2 → command_of words ≡ None
other_words [] none two = absurd (none refl)
other_words (a ∷ []) none two = refl
other_words (a ∷ b ∷ []) none two = absurd (two refl)
other_words (a ∷ b ∷ c ∷ rest) none two = refl
