use Rattle.std.proofs.Common.{codes}
use Rattle.join_request.proofs.Cuts.{back_cut}
use Rattle.join_request.proofs.types.without_bracket.Goals as goal

pub returns : goal.returns
returns c = back_cut (codes ")") c.args.text.now c.strip_suffix.result c.strip_suffix.ensures.cases
