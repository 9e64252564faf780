-- What a probe of a table gives and leaves.
use Rattle.std.specs.Prelude.{◌≡◌, ℕ, List, [], take, get_or}
use Rattle.hash_keys.specs.Views.{keys_of}
use Rattle.chunked_idx_table.specs.Probes.{joins_any, keys_at, marked_more}
use Rattle.chunked_idx_table.specs.Tables.{ProbeTable}
use Rattle.join_laws.specs.declared.Pair.{Pair}
use Rattle.join_laws.specs.Partitions.{part_pairs, parts_pairs}
use Rattle.join_tables.specs.declared.probe.Probing.{Probing}

-- the pairs of some rows in the table of partition p
abbrev pub found_in : Probing → ProbeTable → ℕ → List ℕ → List Pair
found_in probing t p rows = part_pairs probing.places.now probing.plan.now.keep_probe (keys_of probing.keys.now) t p rows

-- those of the rows of each partition, in its table
abbrev pub all_found_in : Probing → List ProbeTable → List (List ℕ) → List (List Pair)
all_found_in probing tables lists = parts_pairs probing.places.now probing.plan.now.keep_probe (keys_of probing.keys.now) lists tables

-- a table with the keys of some rows marked
abbrev pub with_rows_marked : Probing → ProbeTable → List ℕ → ProbeTable
with_rows_marked probing t rows = marked_more (joins_any (keys_at (keys_of probing.keys.now) rows)) t

-- the keys of a front of the rows are marked
abbrev pub MarksFront : Probing → ProbeTable → List ℕ → ProbeTable → Type 0
MarksFront probing old rows new = (n : ℕ) × (new ≡ with_rows_marked probing old (take n rows))

-- the change of a table whose partition's rows are probed
abbrev pub marks_rows : Probing → List (List ℕ) → ℕ → ProbeTable → ProbeTable
marks_rows probing lists p t = with_rows_marked probing t (get_or lists p [])
