use Rattle.std.proofs.Common.{◌≡◌, take}
use Rattle.col_core.specs.Tables.{chunk_leaves, IsOfKind, values_at}
use Rattle.col_core.proofs.series.Series.looked_up_chunk.Given as goal

abbrev pub invariant-loop-idx : goal.invariant-loop-idx
invariant-loop-idx l = record {
  kind : IsOfKind l.self.dtype l.taken;
  so_far : chunk_leaves l.taken ≡ values_at l.self.values (take l.idx-index l.idxs);
}
