use Rattle.std.proofs.Common.{◌≡◌, sym, ◌∙◌, rules, arith}
use Rattle.std.specs.Str.Parse.{digits_value}
use Rattle.join_generator.proofs.Words.{numeral_positive, parsed}
use Rattle.join_generator.proofs.word.number_of_word.Goals as goal

pub returns-in_default-2 : goal.returns-in_default-2
returns-in_default-2 c = let is = parsed c.args.word.now c.parse.result c.parse.ensures.value.0 (search rules) in let err = c.in_default.is in absurd cc

pub returns-in-Ok-clause-some : goal.returns-in-Ok-clause-some
returns-in-Ok-clause-some c =
    let is = parsed c.args.word.now c.parse.result c.parse.ensures.value.0 (search rules) in
    let ok = c.in-Ok.is in
    let same : c.in-Ok.number ≡ digits_value 10 c.args.word.now = cc in
    omega (arith, same, numeral_positive c.args.word.now (search rules))
