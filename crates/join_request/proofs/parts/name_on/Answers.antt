use Rattle.std.proofs.Common.{ℕ, List, ap, ◌∙◌}
use Rattle.join_request.specs.Types.{without_front}
use Rattle.join_request.proofs.Cuts.{front_cut}
use Rattle.join_request.proofs.parts.name_on.Goals as goal

pub returns : goal.returns
returns c = front_cut c.side_prefix.result.now c.args.text.now c.strip_prefix.result c.strip_prefix.ensures.cases ∙ ap (λ (front : List ℕ). without_front front c.args.text.now) c.side_prefix.ensures
