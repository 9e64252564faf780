use Rattle.std.proofs.Common.{◌∙◌, ◌++◌, [], ◌∷◌, ℕ, List, ap, sym}
use Rattle.list_laws.proofs.Lists.{range_upto}
use Rattle.hash_keys.proofs.rows.all_places.Goals as goal

pub loop-i-preserved : goal.loop-i-preserved
loop-i-preserved c = c.in_ok-push.ensures.items ∙ ap (λ (places : List ℕ). places ++ c.loop-i.i ∷ []) c.loop-i.invariant ∙ sym (range_upto c.loop-i.i)
