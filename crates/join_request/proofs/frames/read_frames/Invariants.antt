use Rattle.std.proofs.Common.{◌≡◌, ◌++◌, drop, option_map}
use Rattle.serde_json.specs.View.{items_view}
use Rattle.join_request.specs.Json.{each}
use Rattle.join_request.specs.Frames.{frame_of_value}
use Rattle.join_request.proofs.frames.read_frames.Given as goal

-- what is left decides
abbrev pub invariant-loop-item : goal.invariant-loop-item
invariant-loop-item l = each (frame_of_value l.schema) (items_view l.item-items) ≡ option_map (λ rest. l.frames.items ++ rest) (each (frame_of_value l.schema) (items_view (drop l.item-index l.item-items)))
