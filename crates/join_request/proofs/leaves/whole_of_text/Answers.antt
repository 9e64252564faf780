use Rattle.std.proofs.Common.{inr, refl, sym, ◌∙◌}
use Rattle.join_request.proofs.Texts.{not_whole}
use Rattle.join_request.proofs.leaves.whole_of_text.Goals as goal

pub returns-in-Err-clause-err : goal.returns-in-Err-clause-err
returns-in-Err-clause-err c = inr (refl, not_whole c.args.text.now (sym c.is_whole_text.ensures ∙ c.if-not-is_whole_text.false) c.in-Err.ensures.value.0)
