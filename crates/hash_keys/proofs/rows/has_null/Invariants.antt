use Rattle.std.proofs.Common.{◌≡◌, [], false, take, slice_index_or}
use Rattle.std.specs.List.{list_any}
use Rattle.col_core.specs.Tables.{values_at}
use Rattle.col_core.specs.Values.{is_null}
use Rattle.hash_keys.proofs.rows.has_null.Given as goal

abbrev pub invariant-loop-place : goal.invariant-loop-place
invariant-loop-place l = list_any is_null (values_at (slice_index_or l.df.rows l.row []) (take l.place-index l.places)) ≡ false
