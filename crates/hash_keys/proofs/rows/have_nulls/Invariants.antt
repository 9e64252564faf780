use Rattle.std.proofs.Common.{◌≡◌, false, take}
use Rattle.std.specs.List.{list_any}
use Rattle.col_core.specs.Tables.{column_of}
use Rattle.col_core.specs.Values.{is_null}
use Rattle.hash_keys.proofs.rows.have_nulls.Given as goal

abbrev pub invariant-loop-place : goal.invariant-loop-place
invariant-loop-place l = list_any (λ i. list_any is_null (column_of i l.df.rows)) (take l.place-index l.places) ≡ false
