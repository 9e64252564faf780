use Rattle.std.proofs.Common.{◌≡◌, drop, not}
use Rattle.std.specs.List.{list_any}
use Rattle.col_core.specs.Tables.{leaves_of}
use Rattle.col_core.specs.Values.{is_text}
use Rattle.col_core.proofs.series.has_invalid_utf8.Given as goal

abbrev pub invariant-loop-chunk : goal.invariant-loop-chunk
invariant-loop-chunk l = list_any (λ value. not (is_text l.fn.dtype value)) (leaves_of (drop l.chunk-index l.chunks)) ≡ list_any (λ value. not (is_text l.fn.dtype value)) (leaves_of l.chunks)
