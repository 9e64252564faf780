use Rattle.std.proofs.Common.{◌≡◌, ◌<◌, Some, length, map, take, drop}
use Rattle.std.specs.List.{flat_map}
use Rattle.key_parts.specs.Positions.{position}
use Rattle.chunked_idx_table.specs.Probes.{items}
use Rattle.chunked_idx_table.proofs.row_encoded.RowEncodedChunkedIdxTable.list_items.Given as goal

abbrev pub invariant-loop-i : goal.invariant-loop-i
invariant-loop-i l = record {
  so_far : map position l.out.items ≡ map (λ x. Some x) (flat_map (λ x. x) (take l.i (drop l.offset (items l.self))));
  few : 0 < l.i → length l.out.items < l.limit;
}
