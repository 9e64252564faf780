-- What a write does to the bytes that a sink holds.
use Rattle.std.specs.Prelude.{ℕ, ◌≡◌, ◌≤◌, List, length, take, Option, Bool, true, false}
use Rattle.std.specs.Io.KnownBytes.{append_known}
use Rattle.byte_streams.specs.declared.sink.Put.{Put}
use Rattle.byte_streams.specs.declared.sink.Put.TheVariants.{Took, Failed}

-- What a write did, by its answer: the sink's bytes have grown by the first n, or are as before. A sink that tells what it
-- holds goes on to, and no other begins to.
abbrev pub WriteOf : Put → Option (List ℕ) → Option (List ℕ) → List ℕ → Type 0
WriteOf (Took n) before now bytes = (1 ≤ n) × (n ≤ length bytes) × (now ≡ append_known before (take n bytes))
WriteOf Failed before now bytes = now ≡ before

abbrev pub is_failed_write : Put → Bool
is_failed_write (Took n) = false
is_failed_write Failed = true

-- how many bytes a write took
abbrev pub count_written : Put → ℕ
count_written (Took n) = n
count_written Failed = 0
