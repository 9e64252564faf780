use Rattle.std.proofs.Common.{◌≡◌, map, not, take}
use Rattle.std.specs.List.{list_any}
use Rattle.col_core.specs.Tables.{selected}
use Rattle.col_core.specs.Values.{is_null}
use Rattle.hash_keys.proofs.rows.present_rows.Given as goal

abbrev pub invariant-loop-row : goal.invariant-loop-row
invariant-loop-row l = l.present ≡ map (λ row. not (list_any is_null row)) (take l.row (selected l.places l.df).rows)
