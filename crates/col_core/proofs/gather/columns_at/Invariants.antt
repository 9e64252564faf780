use Rattle.std.proofs.Common.{◌≡◌, map, take}
use Rattle.std.specs.List.{All}
use Rattle.col_core.specs.Tables.{column_of}
use Rattle.col_core.specs.Values.{Fits}
use Rattle.col_core.proofs.gather.columns_at.Given as goal

abbrev pub invariant-loop-frame : goal.invariant-loop-frame
invariant-loop-frame l = record {
  types : All (λ source. source.now.dtype ≡ l.fn.dtype) l.sources.items;
  fits : All (λ source. All (Fits l.fn.dtype) source.now.values) l.sources.items;
  values : map (λ source. source.now.values) l.sources.items ≡ map (λ frame. column_of l.fn.column frame.rows) (take l.frame-index l.frames);
}
