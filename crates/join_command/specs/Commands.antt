-- What words ask for.
use Rattle.std.specs.Prelude.{ℕ, ◌<◌, ◌≤◌, List, [], ◌∷◌, codes, String, string_bytes, bytes_eq, Option, Some, None, option_map, if◌then◌else◌}
use Rattle.join_generator.specs.Words.{number_of_word}
use Rattle.join_command.specs.declared.command.Command.{Command}
use Rattle.join_command.specs.declared.command.Command.TheVariants.{Answer, Generate}

-- `gen` and a number ask for the answer to a generated input
abbrev pub generation : List ℕ → List ℕ → Option Command
generation name number = if bytes_eq name (codes "gen") then option_map Generate (number_of_word number) else None

-- no word asks for the answer to a request
abbrev pub command_of : {Z : Type 0} → List (String Z) → Option Command
command_of [] = Some Answer
command_of (name ∷ number ∷ []) = generation (string_bytes name) (string_bytes number)
command_of _ = None

-- a generated input has from 1 to 100,000 build rows
abbrev pub IsPossible : Command → Type 0
IsPossible Answer = Unit {0}
IsPossible (Generate n) = (0 < n) × (n ≤ 100000)
