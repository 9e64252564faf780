use Rattle.std.proofs.Common.{◌≡◌, ◌++◌, drop, option_map}
use Rattle.serde_json.specs.View.{items_view}
use Rattle.join_request.specs.Json.{each}
use Rattle.join_request.proofs.from_value.read_list.Given as goal

-- what is left decides
abbrev pub invariant-loop-item : goal.invariant-loop-item
invariant-loop-item g l = each g.T.FromValue.from_value (items_view l.item-items) ≡ option_map (λ rest. l.found.items ++ rest) (each g.T.FromValue.from_value (items_view (drop l.item-index l.item-items)))
