use Rattle.std.proofs.Common.{◌≡◌, map, take}
use Rattle.col_core.specs.Tables.{chunk_leaves, IsOfKind}
use Rattle.col_core.specs.Places.{picked}
use Rattle.col_core.proofs.gather.gather_values.Given as goal

abbrev pub invariant-loop-place : goal.invariant-loop-place
invariant-loop-place l = record {
  kind : IsOfKind l.fn.dtype l.gathered;
  so_far : chunk_leaves l.gathered ≡ map (picked (map (λ source. source.now.values) l.fn.sources)) (take l.place-index l.places);
}
