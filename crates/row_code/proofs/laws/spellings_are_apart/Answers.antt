use Rattle.std.proofs.Common.{◌≡◌, ◌∙◌, ◌++◌, [], ◌∷◌, ℕ, List, refl, ap, sym}
use Rattle.col_core.specs.declared.schema.Field.{Field}
use Rattle.row_code.specs.Spelling.{row_spelling}
use Rattle.row_code.proofs.Apart.{spellings_apart, same_rows, no_front}
use Rattle.row_code.proofs.laws.spellings_are_apart.Goals as goal

pub returns-clause-apart : goal.returns-clause-apart
returns-clause-apart c = spellings_apart

pub returns-clause-same : goal.returns-clause-same
returns-clause-same c = λ schema x y p q. (same_rows schema x y p q, λ e. ap (row_spelling schema) e)

pub returns-clause-no_front : goal.returns-clause-no_front
returns-clause-no_front c = no_front
