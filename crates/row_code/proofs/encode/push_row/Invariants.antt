use Rattle.std.proofs.Common.{◌≡◌, ◌++◌, take}
use Rattle.std.specs.List.{All, flat_map}
use Rattle.col_core.specs.Values.{value_at}
use Rattle.row_code.specs.Spelling.{spelling, IsValueOf}
use Rattle.row_code.proofs.encode.push_row.Given as goal

abbrev pub invariant-loop-column : goal.invariant-loop-column
invariant-loop-column l = record {
  so_far : l.out.items ≡ l.initial.out.items ++ flat_map (λ c. spelling c.now.dtype (value_at c.now.values l.i)) (take l.column-index l.columns);
  values : All (λ c. IsValueOf c.now.dtype (value_at c.now.values l.i)) (take l.column-index l.columns);
}
