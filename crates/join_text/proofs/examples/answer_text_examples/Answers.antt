use Rattle.std.proofs.Common.{refl}
use Rattle.std.specs.Fmt.{digits}
use Rattle.std.specs.Int.{int_wrap}
use Rattle.csv.specs.Writing.{escaped, fields_text, is_blank}
use Rattle.join_text.proofs.examples.answer_text_examples.Goals as goal

pub returns-clause-inner : goal.returns-clause-inner
unfolding int_wrap digits escaped fields_text is_blank
returns-clause-inner c = refl

pub returns-clause-headers : goal.returns-clause-headers
unfolding escaped fields_text is_blank
returns-clause-headers c = refl

pub returns-clause-outer : goal.returns-clause-outer
unfolding int_wrap digits escaped fields_text is_blank
returns-clause-outer c = refl
