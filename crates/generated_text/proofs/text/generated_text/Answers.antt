use Rattle.generated_text.proofs.Inputs.{lines_for}
use Rattle.generated_text.proofs.text.generated_text.Goals as goal

pub returns : goal.returns
returns g c =
    let input = c.in_ok-input in
    let answer = c.in_ok-answer in
    lines_for c.answer_lines.result c.args.n input.input.query input.input.build input.input.probe answer.answer.rows answer.answer.groups
    input.ensures.query input.ensures.build input.ensures.probe answer.ensures.rows answer.ensures.groups c.answer_lines.ensures
