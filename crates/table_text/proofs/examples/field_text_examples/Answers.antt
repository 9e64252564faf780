use Rattle.std.proofs.Common.{refl}
use Rattle.std.specs.Fmt.{digits}
use Rattle.table_text.proofs.examples.field_text_examples.Goals as goal

pub returns-clause-whole_numbers : goal.returns-clause-whole_numbers
unfolding digits
returns-clause-whole_numbers c = refl

pub returns-clause-scaled : goal.returns-clause-scaled
unfolding digits
returns-clause-scaled c = refl
