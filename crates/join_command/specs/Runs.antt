-- What a run of the program does to its streams. A stream stands here as what it tells before the run and after it: the bytes that a
-- source has left or a sink holds, and the count of faults.
use Rattle.std.specs.Prelude.{ℕ, ◌≡◌, ◌+◌, ◌^◌, ◌<◌, ◌≤◌, ◌↔◌, ◌⊎◌, List, length, Option, Some, None, Result, Ok, Err}
use Rattle.std.specs.Io.KnownBytes.{prepend_known, append_known, IsAtEnd}
use Rattle.byte_streams.specs.declared.whole.TheConstants.{PIECE}
use Rattle.byte_streams.specs.Faults.{Rose}
use Rattle.byte_streams.specs.Whole.{GrowsByFront}
use Rattle.generated_text.specs.Lines.{generated_text}
use Rattle.join_command.specs.declared.command.Command.{Command}
use Rattle.join_command.specs.declared.command.Command.TheVariants.{Answer, Generate}
use Rattle.join_command.specs.declared.error.ToolError.{ToolError}
use Rattle.join_command.specs.Errors.{status_of, line_of}
use Rattle.join_command.specs.Replies.{reply_to}

-- the statuses of the program
abbrev pub IsStatus : ℕ → Type 0
IsStatus status = (status ≡ 0) ⊎ ((2 ≤ status) × (status ≤ 8))

-- A request was read: the source was read to its end, and these bytes, at most 2^28, are all that was left.
pub record WasRead (before now : Option (List ℕ)) (bytes : List ℕ) : Type 0 where
  pub taken : before ≡ prepend_known bytes now
  pub ended : IsAtEnd now
  pub within : length bytes ≤ 2 ^ 28

-- A request was read, and its reply is this text.
abbrev pub IsAnswered : Option (List ℕ) → Option (List ℕ) → List ℕ → Type 0
IsAnswered before now text = (bytes : List ℕ) × WasRead before now bytes × (reply_to bytes ≡ Ok text)

-- A request was read, and its reply is this refusal.
abbrev pub IsRefused : Option (List ℕ) → Option (List ℕ) → ToolError → Type 0
IsRefused before now e = (bytes : List ℕ) × WasRead before now bytes × (reply_to bytes ≡ Err e)

-- This is the text of a command: that of the answer to the request that was read, or that for the generated input.
abbrev pub IsTextOf : Option Command → Option (List ℕ) → Option (List ℕ) → List ℕ → Type 0
IsTextOf (Some Answer) before now text = IsAnswered before now text
IsTextOf (Some (Generate n)) before now text = text ≡ generated_text n
IsTextOf None before now text = ⊥

-- The text of a command was written whole to the sink.
pub record WritesText (command : Option Command) (before now held grown : Option (List ℕ)) : Type 0 where
  pub text : List ℕ
  pub answered : IsTextOf command before now text
  pub written : grown ≡ append_known held text

-- A front of the text of a command was written to the sink.
pub record WritesFront (command : Option Command) (before now held grown : Option (List ℕ)) : Type 0 where
  pub text : List ℕ
  pub answered : IsTextOf command before now text
  pub written : GrowsByFront held grown text

-- What was taken from the source: more than a request may have exactly with status 4, and then by at most a piece.
pub record TakesFront (before now : Option (List ℕ)) (status : ℕ) : Type 0 where
  pub taken : List ℕ
  pub front : before ≡ prepend_known taken now
  pub too_long : (status ≡ 4) ↔ (2 ^ 28 < length taken)
  pub within : length taken ≤ 2 ^ 28 + PIECE

-- A line was written to a sink: whole, or a front of it where the sink's count of faults rose.
pub record WritesLine (before now : Option (List ℕ)) (faults_before faults_now : ℕ) (line : List ℕ) : Type 0 where
  pub front : GrowsByFront before now line
  pub whole : Rose faults_before faults_now ⊎ (now ≡ append_known before line)

-- A run ended with the status of a cause and told its line on the error stream; with 5 and 6 the request was read, and the cause
-- is its reply.
pub record TellsCause (status : ℕ) (before now held grown : Option (List ℕ)) (faults_before faults_now : ℕ) : Type 0 where
  pub cause : ToolError
  pub is_status : status ≡ status_of cause
  pub refused : 5 ≤ status → status ≤ 6 → IsRefused before now cause
  pub line : WritesLine held grown faults_before faults_now (line_of cause)

-- A request is asked for, and the source gave these bytes, no more than a request may have, without a fault.
pub record IsGiven (command : Option Command) (bytes : List ℕ) (faults_before faults_now : ℕ) : Type 0 where
  pub asked : command ≡ Some Answer
  pub short : length bytes ≤ 2 ^ 28
  pub sound : ¬ Rose faults_before faults_now

-- the statuses for which memory, sources and sinks that do not fail leave room, by the reply to a request
abbrev pub IsReplied : Result (List ℕ) ToolError → ℕ → Type 0
IsReplied (Ok text) status = (status ≡ 0) ⊎ (status ≡ 7)
IsReplied (Err e) status = status ≡ status_of e
