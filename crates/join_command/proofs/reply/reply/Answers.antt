use Rattle.join_command.proofs.Answered.{answered_request}
use Rattle.join_command.proofs.reply.reply.Goals as goal

pub returns-clause-answered : goal.returns-clause-answered
returns-clause-answered g c =
    let answer = c.in_ok-answer.ensures in
    answered_request c.args.request.now c.as_slice-build.result.now c.as_slice-probe.result.now c.in_ok-answer.answer.rows c.in_ok-answer.answer.groups c.in_ok-answer_text.field-0
    c.as_slice-build.ensures c.as_slice-probe.ensures answer.accepted answer.rows answer.groups c.in_ok-answer_text.ensures
