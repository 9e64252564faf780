-- Sources and sinks in memory, and what their next call answers.
use Rattle.std.specs.Prelude.{ℕ, ◌-◌, ◌==◌, min, List, length, take, drop, ◌++◌, ◌||◌, nat_eq, if◌then◌else◌}
use Rattle.std.specs.List.{list_any}
use Rattle.byte_streams.specs.declared.source.Took.{Took}
use Rattle.byte_streams.specs.declared.source.Took.TheVariants as reads
use Rattle.byte_streams.specs.declared.sink.Put.{Put}
use Rattle.byte_streams.specs.declared.sink.Put.TheVariants as writes
use Rattle.byte_streams.specs.Faults.{one_more, faults_after}
use Rattle.byte_streams.specs.Sources.{is_failed_read, count_read}
use Rattle.byte_streams.specs.Sinks.{is_failed_write, count_written}

-- a source in memory
pub record Supply : Type 0 where
  pub left : List ℕ  -- the bytes that are left
  pub piece : ℕ  -- the most bytes of a call
  pub fail_at : List ℕ  -- the numbers of the calls that fail
  pub calls : ℕ  -- the number of the next call
  pub faults : ℕ  -- how many calls failed

-- a read fails where its number is listed, is at the end where nothing is left, and else gives as much as it may
abbrev pub next_read : Supply → ℕ → Took
next_read s room =
    if list_any (nat_eq s.calls) s.fail_at then reads.Failed
    else (if length s.left == 0 then reads.End else reads.Got (min (min s.piece room) (length s.left)))

-- a source after this answer
abbrev pub after_read : Supply → Took → Supply
after_read s took = record {
  left = drop (count_read took) s.left;
  piece = s.piece;
  fail_at = s.fail_at;
  calls = one_more s.calls;
  faults = faults_after (is_failed_read took) s.faults;
}

-- a sink in memory
pub record Store : Type 0 where
  pub held : List ℕ  -- the bytes that it holds
  pub room : ℕ  -- the most bytes that it may hold
  pub piece : ℕ  -- the most bytes of a call
  pub fail_at : List ℕ  -- the numbers of the calls that fail
  pub calls : ℕ  -- the number of the next call
  pub faults : ℕ  -- how many calls failed

-- a write fails where its number is listed or the sink is full, and else takes as much as it may
abbrev pub next_write : Store → ℕ → Put
next_write s len =
    if list_any (nat_eq s.calls) s.fail_at || (length s.held == s.room) then writes.Failed
    else writes.Took (min (min s.piece len) (s.room - length s.held))

-- a sink after a write of these bytes that was answered so
abbrev pub after_write : Store → List ℕ → Put → Store
after_write s bytes put = record {
  held = s.held ++ take (count_written put) bytes;
  room = s.room;
  piece = s.piece;
  fail_at = s.fail_at;
  calls = one_more s.calls;
  faults = faults_after (is_failed_write put) s.faults;
}
