-- What the adapters of std's readers and writers do to these.
use Rattle.std.specs.Prelude.{ℕ, List, [], take, Option, ⊤}
use Rattle.std.specs.Io.KnownBytes.{Keeps, Appends, Consumes, IsAtEnd}
use Rattle.byte_streams.specs.declared.source.Took.{Took}
use Rattle.byte_streams.specs.declared.source.Took.TheVariants as reads
use Rattle.byte_streams.specs.declared.sink.Put.{Put}
use Rattle.byte_streams.specs.declared.sink.Put.TheVariants as writes

-- a reader or a writer, and how often it failed
pub record Adapted (X : Type 0) : Type 0 where
  pub stream : X
  pub faults : ℕ

-- what a read did to the bytes that a reader has left, where the reader tells them
abbrev pub ReaderRead : Took → Option (List ℕ) → Option (List ℕ) → List ℕ → Type 0
ReaderRead (reads.Got n) before now buffer = Consumes before now (take n buffer)
ReaderRead reads.End before now buffer = Consumes before now [] × IsAtEnd now
ReaderRead reads.Failed before now buffer = Keeps before now

-- what a write did to the bytes that a writer holds, where the writer tells them: nothing is said after a fault
abbrev pub WriterWrote : Put → Option (List ℕ) → Option (List ℕ) → List ℕ → Type 0
WriterWrote (writes.Took n) before now bytes = Appends before now (take n bytes)
WriterWrote writes.Failed before now bytes = ⊤
