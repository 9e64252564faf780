use Rattle.std.proofs.Common.{◌≡◌, Some}
use Rattle.join_command.specs.declared.command.Command.TheVariants.{Answer}
use Rattle.join_command.specs.Commands.{command_of}
use Rattle.join_command.proofs.run.run_command.Goals as goal

pub returns-in_err-text-clause-unread : goal.returns-in_err-text-clause-unread
returns-in_err-text-clause-unread g c = λ other. c.command_text.ensures.unread (λ same.
    let given = c.command_of.ensures.command in
    let is = c.in-Some.is in
    let answers : command_of c.args.words.now ≡ Some Answer = cc in
    other answers)
