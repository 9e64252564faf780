use Rattle.std.proofs.Common.{◌≡◌, ◌++◌, map, drop, option_map}
use Rattle.serde_json.specs.View.{items_of}
use Rattle.join_request.specs.Json.{each}
use Rattle.join_request.specs.Columns.{leaf_in, row_views, rows_view}
use Rattle.join_request.proofs.frames.read_values.Given as goal

-- what is left decides
abbrev pub invariant-loop-row : goal.invariant-loop-row
invariant-loop-row g l = record {
  dtype : l.values.dtype ≡ l.field.dtype;
  read : each (leaf_in l.i l.field.dtype) (rows_view (map (λ row. row.now) l.rows)) ≡ option_map (λ rest. l.values.values ++ rest) (each (leaf_in l.i l.field.dtype) (items_of (drop l.row-index (row_views (map (λ row. row.now) l.rows)))));
}
