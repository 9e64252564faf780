use Rattle.std.proofs.Common.{◌≡◌, ◌<◌, ℕ, List, length, map, take, Some, IsSome, slice_get}
use Rattle.std.specs.List.{All}
use Rattle.col_core.specs.declared.schema.Field.{Field}
use Rattle.col_core.specs.Tables.{Row, Column, header, values_of}
use Rattle.col_core.specs.Values.{Fits}
use Rattle.join_request.specs.Json.{each}
use Rattle.join_request.specs.Frames.{row_of_value}
use Rattle.join_request.specs.Columns.{leaf_in, rows_view}
use Rattle.join_request.proofs.Columns.{columns_to}
use Rattle.join_request.proofs.frames.frame_of_rows.Given as goal

-- the first columns are read, and where the rows can be read they are the rows' first columns
abbrev pub invariant-loop-i : goal.invariant-loop-i
invariant-loop-i l = record {
  headers : map header l.columns.items ≡ take l.i l.schema;
  lengths : All (λ c. length c.values ≡ length l.rows) l.columns.items;
  fits : All (λ (c : Column). All (Fits c.dtype) c.values) l.columns.items;
  values : (rows : List Row) → each (row_of_value l.schema) (rows_view (map (λ row. row.now) l.rows)) ≡ Some rows → values_of l.columns.items ≡ columns_to rows l.i;
  read : (k : ℕ) → k < l.i → (f : Field) → slice_get l.schema k ≡ Some f → IsSome (each (leaf_in k f.dtype) (rows_view (map (λ row. row.now) l.rows)));
}
