-- Keys that all come with one hash.
use Rattle.std.specs.Prelude.{◌≡◌, ◌<◌, ℕ, List, length, slice_index}
use Rattle.byte_map.specs.Entries.{Entry, hashes_of}

abbrev pub HaveHash : List (Entry ℕ) → Type 0
HaveHash es = (i : ℕ) → i < length es → slice_index (hashes_of es) i ≡ 7
