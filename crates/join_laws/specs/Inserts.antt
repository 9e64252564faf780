-- The entries of a table that has taken some rows.
use Rattle.std.specs.Prelude.{ℕ, false, List, map, filter, bytes_eq}
use Rattle.key_parts.specs.Positions.{Position}
use Rattle.hash_keys.specs.Keys.{Key}
use Rattle.chunked_idx_table.specs.Tables.{KeyEntry}
use Rattle.join_laws.specs.Deals.{is_key, present}
use Rattle.list_laws.specs.Distinct.{distinct}

-- the positions of a key among rows
abbrev pub positions_of : List (Key × Position) → List ℕ → List Position
positions_of rows key = map (λ r. r.1) (filter (λ r. is_key bytes_eq key r.0) rows)

-- an entry for each distinct key, none marked
abbrev pub entries_of : List (Key × Position) → List KeyEntry
entries_of rows = map (λ key. record { key = key; positions = positions_of rows key; marked = false }) (distinct bytes_eq (present (map (λ r. r.0) rows)))
