use Rattle.std.proofs.Common.{List, ℕ, [], ◌∷◌, ◌++◌, ap, sym, ◌∙◌}
use Rattle.list_laws.proofs.Lists.{range_upto}
use Rattle.group_locals.proofs.order.group_numbers.Goals as goal

pub loop-group-preserved : goal.loop-group-preserved
loop-group-preserved c = c.in_ok-push.ensures.items ∙ ap (λ (xs : List ℕ). xs ++ c.loop-group.group ∷ []) c.loop-group.invariant ∙ sym (range_upto c.loop-group.group)
