-- The keys of the rows of a table.
use Rattle.std.specs.Prelude.{Bool, not, ◌&&◌, cond, List, map, Some, None}
use Rattle.std.specs.List.{list_any}
use Rattle.col_core.specs.declared.schema.Field.{Field}
use Rattle.col_core.specs.Values.{is_null}
use Rattle.col_core.specs.Tables.{Row, Table}
use Rattle.row_code.specs.Spelling.{row_spelling}
use Rattle.hash_keys.specs.Keys.{Key}

-- the bytes of a row; none where nulls are not valid and one of its values is null
abbrev pub key_of : Bool → List Field → Row → Key
key_of null_is_valid schema row = cond (not null_is_valid && list_any is_null row) None (Some (row_spelling schema row))

-- the key of each row
abbrev pub row_keys : Bool → Table → List Key
row_keys null_is_valid t = map (key_of null_is_valid t.schema) t.rows
