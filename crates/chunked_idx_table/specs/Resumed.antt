-- Calls that go on where the ones before stopped.
use Rattle.std.specs.Prelude.{ℕ, ◌+◌, ◌==◌, Bool, not, ◌&&◌, List, [], ◌∷◌, ◌++◌, map, filter, length, take, drop, Option}
use Rattle.std.specs.List.{flat_map}
use Rattle.key_parts.specs.Positions.{Position}
use Rattle.hash_keys.specs.Keys.{Key}
use Rattle.list_laws.specs.Distinct.{NoRepeat}
use Rattle.chunked_idx_table.specs.Replies.{processed, replied}
use Rattle.chunked_idx_table.specs.Tables.{ProbeTable}
use Rattle.chunked_idx_table.specs.Probes.{row_matches, with_marks, items}

-- the limit of a probe, and whether it marks
pub record ProbeCall : Type 0 where
  pub limit : ℕ
  pub marks : Bool

-- the matches of row i, each with the index i
abbrev pub row_pairs : ProbeTable → List Key → Bool → ℕ → List (ℕ × Option Position)
row_pairs t keys emit i = map (λ m. (i, m)) (row_matches t keys emit i)

-- how many of these rows a probe takes
abbrev pub probed : ProbeTable → List Key → Bool → ℕ → List ℕ → ℕ
probed t keys emit limit idxs = processed (row_matches t keys emit) limit idxs

-- the replies of probes one after the other: each is of the rows that those before left, and of the table that they left
abbrev pub probe_replies : List Key → Bool → List ProbeCall → ProbeTable → List ℕ → List (ℕ × Option Position)
probe_replies keys emit [] t idxs = []
probe_replies keys emit (call ∷ calls) t idxs =
    flat_map (row_pairs t keys emit) (take (probed t keys emit call.limit idxs) idxs)
    ++ probe_replies keys emit calls (with_marks call.marks keys (take (probed t keys emit call.limit idxs) idxs) t) (drop (probed t keys emit call.limit idxs) idxs)

-- the rows that these probes leave
abbrev pub rows_left : List Key → Bool → List ProbeCall → ProbeTable → List ℕ → List ℕ
rows_left keys emit [] t idxs = idxs
rows_left keys emit (call ∷ calls) t idxs =
    rows_left keys emit calls (with_marks call.marks keys (take (probed t keys emit call.limit idxs) idxs) t) (drop (probed t keys emit call.limit idxs) idxs)

-- how many items a call of `unmarked_keys` takes
abbrev pub listed : ProbeTable → ℕ → ℕ → ℕ
listed t limit offset = processed (λ x. x) limit (drop offset (items t))

-- the replies of calls of `unmarked_keys` one after the other, under these limits, each from where the one before stopped
abbrev pub unmarked_replies : ProbeTable → List ℕ → ℕ → List Position
unmarked_replies t [] offset = []
unmarked_replies t (limit ∷ limits) offset = replied (λ x. x) limit (drop offset (items t)) ++ unmarked_replies t limits (offset + listed t limit offset)

-- where they stop
abbrev pub offset_after : ProbeTable → List ℕ → ℕ → ℕ
offset_after t [] offset = offset
offset_after t (limit ∷ limits) offset = offset_after t limits (offset + listed t limit offset)

-- the null positions, and then all positions of each unmarked key
abbrev pub unmarked_positions : ProbeTable → List Position
unmarked_positions t = t.nulls ++ flat_map (λ e. e.positions) (filter (λ e. not e.marked) t.entries)

-- all positions of a table
abbrev pub all_positions : ProbeTable → List Position
all_positions t = t.nulls ++ flat_map (λ e. e.positions) t.entries

-- no position stands twice
abbrev pub position_eq : Position → Position → Bool
position_eq x y = (x.chunk == y.chunk) && (x.row == y.row)

abbrev pub StandOnce : List Position → Type 0
StandOnce xs = NoRepeat position_eq xs
