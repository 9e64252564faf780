-- What a read does to the bytes that a source has left.
use Rattle.std.specs.Prelude.{ℕ, ◌≡◌, ◌≤◌, List, length, take, Option, Bool, true, false}
use Rattle.std.specs.Io.KnownBytes.{prepend_known, IsAtEnd}
use Rattle.byte_streams.specs.declared.source.Took.{Took}
use Rattle.byte_streams.specs.declared.source.Took.TheVariants.{Got, End, Failed}

-- What a read did, by its answer. The bytes that it gave are the first of those left, the rest is left; it told of the end
-- only where nothing was left; and it failed without loss. A source that tells what is left goes on to, and no other begins to.
abbrev pub ReadOf : Took → Option (List ℕ) → Option (List ℕ) → List ℕ → Type 0
ReadOf (Got n) before now buffer = (1 ≤ n) × (n ≤ length buffer) × (before ≡ prepend_known (take n buffer) now)
ReadOf End before now buffer = (now ≡ before) × IsAtEnd before
ReadOf Failed before now buffer = now ≡ before

abbrev pub is_failed_read : Took → Bool
is_failed_read (Got n) = false
is_failed_read End = false
is_failed_read Failed = true

-- how many bytes a read gave
abbrev pub count_read : Took → ℕ
count_read (Got n) = n
count_read End = 0
count_read Failed = 0
