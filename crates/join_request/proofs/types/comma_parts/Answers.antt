use Rattle.join_request.proofs.Cuts.{parts_at_comma}
use Rattle.join_request.proofs.types.comma_parts.Goals as goal

pub returns : goal.returns
returns c = parts_at_comma c.args.text.now c.split_once.result c.split_once.ensures.cases
