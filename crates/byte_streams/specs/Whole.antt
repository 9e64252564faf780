-- What whole reads and writes do.
use Rattle.std.specs.Prelude.{ℕ, ◌≡◌, ◌+◌, ◌<◌, ◌≤◌, List, length, take, Option, Bool, true, false, Result, Ok, Err}
use Rattle.std.specs.Io.KnownBytes.{prepend_known, append_known, IsAtEnd}
use Rattle.byte_streams.specs.declared.whole.TheConstants.{PIECE}
use Rattle.byte_streams.specs.declared.whole.ReadError.{ReadError}
use Rattle.byte_streams.specs.declared.whole.ReadError.TheVariants.{Fault, TooLong, Memory}

-- a source was read to its end, and these are all the bytes that were left
abbrev pub ReadWhole : Option (List ℕ) → Option (List ℕ) → List ℕ → Type 0
ReadWhole before now bytes = (before ≡ prepend_known bytes now) × IsAtEnd now

-- how many bytes were taken before reading stopped so: too long is more than `most`, by at most a piece
abbrev pub StopsAfter : ReadError → ℕ → ℕ → Type 0
StopsAfter Fault most count = count ≤ most
StopsAfter TooLong most count = (most < count) × (count ≤ most + PIECE)
StopsAfter Memory most count = count ≤ most

-- Reading stopped before the end: the first of the bytes left were taken.
pub record StopsReading (e : ReadError) (most : ℕ) (before now : Option (List ℕ)) : Type 0 where
  pub taken : List ℕ
  pub front : before ≡ prepend_known taken now
  pub count : StopsAfter e most (length taken)

-- whether reading stopped since the source failed
abbrev pub is_read_fault : {A : Type 0} → Result A ReadError → Bool
is_read_fault (Ok bytes) = false
is_read_fault (Err Fault) = true
is_read_fault (Err TooLong) = false
is_read_fault (Err Memory) = false

-- the sink's bytes have grown by the first n of these, for some n
abbrev pub GrowsByFront : Option (List ℕ) → Option (List ℕ) → List ℕ → Type 0
GrowsByFront before now bytes = (n : ℕ) × (now ≡ append_known before (take n bytes))
