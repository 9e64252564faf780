use Rattle.std.proofs.Common.{◌≡◌, ℕ, ◌<◌, [], map, get_or}
use Rattle.hash_keys.proofs.deal.clear_lists.Given as goal

abbrev pub invariant-loop-list : goal.invariant-loop-list
invariant-loop-list l = (p : ℕ) → p < l.list-index → get_or (map (λ v. v.items) l.lists) p [] ≡ []
