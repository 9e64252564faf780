use Rattle.std.proofs.Common.{◌≡◌, map, take, drop}
use Rattle.serde_json.specs.View.{view, items_view}
use Rattle.join_request.specs.Columns.{are_wide, row_views}
use Rattle.join_request.proofs.frames.wide_rows.Given as goal

-- the rows so far, and what is left decides
abbrev pub invariant-loop-row : goal.invariant-loop-row
invariant-loop-row l = record {
  so_far : row_views (map (λ row. row.now) l.wide.items) ≡ map view (take l.row-index l.rows);
  are_wide : are_wide l.width (items_view l.rows) ≡ are_wide l.width (items_view (drop l.row-index l.rows));
}
