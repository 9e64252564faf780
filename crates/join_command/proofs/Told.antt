-- What follows where a source tells its bytes, and what a write of a line leaves.
use Rattle.std.proofs.Common.{◌≡◌, ◌^◌, ◌≤◌, ◌⊎◌, ◌==◌, ℕ, true, ◌++◌, List, length, Option, Some, None, Result, Ok, Err, is_err, OnOk, OnErr, IfSome, IsOkAnd, inl, inr, refl, ap, sym, subst, ◌∙◌, arith, length-append}
use Rattle.std.proofs.lemmas.List.{append-nil}
use Rattle.std.proofs.Math.Seq.{take-length}
use Rattle.std.specs.Io.KnownBytes.{prepend_known, append_known}
use Rattle.byte_streams.specs.Faults.{Rose, faults_after}
use Rattle.byte_streams.specs.Whole.{GrowsByFront}
use Rattle.byte_streams.specs.declared.whole.WriteFault.{WriteFault as Fault}
use Rattle.join_request.specs.declared.error.RequestError.{RequestError}
use Rattle.join_request.specs.declared.reader.Request.{Request as Read}
use Rattle.join_request.specs.Request.{request_of}
use Rattle.join_model.specs.Refusals.{refusal_of}
use Rattle.join_command.specs.declared.command.Command.{Command}
use Rattle.join_command.specs.declared.command.Command.TheVariants.{Answer, Generate}
use Rattle.join_command.specs.declared.error.ToolError.{ToolError}
use Rattle.join_command.specs.declared.error.ToolError.TheVariants.{Usage, ReadFault, TooLong, Request, Query, WriteFault, TextFault, Memory}
use Rattle.join_command.specs.Errors.{status_of}
use Rattle.join_command.specs.Replies.{text_of, text_unless, reply_of, reply_to, HasNoRefusal}
use Rattle.join_command.specs.Runs.{WasRead, IsAnswered, IsRefused, IsReplied, IsGiven, IsTextOf, TakesFront, WritesLine}

-- a write of a line, whole or not
pub writes_line : (before now : Option (List ℕ)) (faults_before faults_now : ℕ) (line : List ℕ) (r : Result (Unit {0}) Fault)
    → OnOk r (now ≡ append_known before line) → OnErr r (GrowsByFront before now line) → OnErr r (Rose faults_before faults_now)
    → WritesLine before now faults_before faults_now line
writes_line before now faults_before faults_now line (Ok u) whole front cause =
    record { front = (length line, whole ∙ ap (append_known before) (sym (take-length line))); whole = inr whole }
writes_line before now faults_before faults_now line (Err e) whole front cause = record { front = front; whole = inl cause }

-- a write that is not whole has had its fault counted
pub faults_counted : (before now : ℕ) (r : Result (Unit {0}) Fault) → now ≡ faults_after (is_err r) before → OnErr r (Rose before now)
faults_counted before now (Ok u) counted = tt
faults_counted before now (Err e) counted = omega (arith, counted)

some_injective : {x y : List ℕ} → Some x ≡ Some y → x ≡ y
some_injective e = cc

-- what was taken is a front of what was left
pub taken_within : (bytes taken : List ℕ) (now : Option (List ℕ)) → Some bytes ≡ prepend_known taken now → length taken ≤ length bytes
taken_within bytes taken None e = absurd (cc)
taken_within bytes taken (Some rest) e = omega (arith, ap length (some_injective e), length-append taken rest)

-- a request that was read is all that was left
pub read_is_left : (bytes read : List ℕ) (now : Option (List ℕ)) → WasRead (Some bytes) now read → read ≡ bytes
read_is_left bytes read None was = absurd (cc)
read_is_left bytes read (Some rest) was = sym (some_injective was.taken ∙ (ap (λ xs. read ++ xs) was.ended ∙ append-nil read))

-- an answer is the reply to what was left
pub answered_replied : (bytes text : List ℕ) (now : Option (List ℕ)) → IsAnswered (Some bytes) now text → reply_to bytes ≡ Ok text
answered_replied bytes text now a = sym (ap reply_to (read_is_left bytes a.0 now a.1)) ∙ a.2

-- a refusal is the reply to what was left
pub refused_replied : (bytes : List ℕ) (e : ToolError) (now : Option (List ℕ)) → IsRefused (Some bytes) now e → reply_to bytes ≡ Err e
refused_replied bytes e now r = sym (ap reply_to (read_is_left bytes r.0 now r.1)) ∙ r.2

-- so the status is that of the refusal
refused_status : (bytes : List ℕ) (e : ToolError) (now : Option (List ℕ)) → IsRefused (Some bytes) now e → IsReplied (reply_to bytes) (status_of e)
refused_status bytes e now r = subst (λ (reply : Result (List ℕ) ToolError). IsReplied reply (status_of e)) (sym (refused_replied bytes e now r)) refl

-- what a run that ends with an error says of it
pub record Says (e : ToolError) (command : Option Command) (before now : Option (List ℕ)) (faults_before faults_now : ℕ) : Type 0 where
  pub usage : status_of e ≡ 2 → command ≡ None
  pub faults : faults_now ≡ faults_after (status_of e == 3) faults_before
  pub taken : TakesFront before now (status_of e)
  pub refused : 5 ≤ status_of e → status_of e ≤ 6 → IsRefused before now e
  pub front : status_of e ≡ 7 → (text : List ℕ) × IsTextOf command before now text

-- where words, faults and length do not explain an error, the reply does, or want of memory
explained : (e : ToolError) (bytes : List ℕ) (now : Option (List ℕ)) (faults_before faults_now : ℕ)
    → Says e (Some Answer) (Some bytes) now faults_before faults_now → length bytes ≤ 2 ^ 28 → ¬ Rose faults_before faults_now
    → (status_of e ≡ 8) ⊎ IsReplied (reply_to bytes) (status_of e)
explained Usage bytes now f f' says short sound = let none = says.usage refl in absurd (cc)
explained ReadFault bytes now f f' says short sound = absurd (sound (omega (arith, says.faults)))
explained TooLong bytes now f f' says short sound =
    let long = says.taken.too_long.0 refl in
    let within = taken_within bytes says.taken.taken now says.taken.front in
    absurd (omega (arith, short))
explained (Request r) bytes now f f' says short sound = inr (refused_status bytes (Request r) now (says.refused (omega arith) (omega arith)))
explained (Query q) bytes now f f' says short sound = inr (refused_status bytes (Query q) now (says.refused (omega arith) (omega arith)))
explained WriteFault bytes now f f' says short sound =
    let a = says.front refl in
    inr (subst (λ (r : Result (List ℕ) ToolError). IsReplied r 7) (sym (answered_replied bytes a.0 now a.1)) (inr refl))
explained TextFault bytes now f f' says short sound = inl refl
explained Memory bytes now f f' says short sound = inl refl

-- a request without a fault has its reply, unless memory runs out
pub replied : (e : ToolError) (command : Option Command) (before now : Option (List ℕ)) (faults_before faults_now : ℕ)
    → Says e command before now faults_before faults_now
    → IfSome before (λ bytes. IsGiven command bytes faults_before faults_now → (status_of e ≡ 8) ⊎ IsReplied (reply_to bytes) (status_of e))
replied e command None now f f' says = tt
replied e None (Some bytes) now f f' says = λ given. let asked = given.asked in absurd (cc)
replied e (Some (Generate n)) (Some bytes) now f f' says = λ given. let asked = given.asked in absurd (cc)
replied e (Some Answer) (Some bytes) now f f' says = λ given. explained e bytes now f f' says given.short given.sound

-- the reply to a request whose query has no refusal is a text
text_replied : (read : Result Read RequestError) → IsOkAnd read (λ r. refusal_of r.query r.build r.probe ≡ None) → (text : List ℕ) × (reply_of read ≡ Ok text)
text_replied (Ok r) none = (text_of r, ap (text_unless (text_of r)) none)
text_replied (Err e) none = absurd none

-- so a run that ends neither by want of memory nor by a fault of the sink has answered it
valid_answered : (bytes : List ℕ) (status : ℕ) → HasNoRefusal bytes → ¬ (status ≡ 7) → (status ≡ 8) ⊎ IsReplied (reply_to bytes) status → (status ≡ 0) ⊎ (status ≡ 8)
valid_answered bytes status valid sound (inl eight) = inr eight
valid_answered bytes status valid sound (inr replied) =
    let text = text_replied (request_of bytes) valid in
    elim (subst (λ (reply : Result (List ℕ) ToolError). IsReplied reply status) text.1 replied) [
      | inl zero ↦ inl zero
      | inr seven ↦ absurd (sound seven)
    ]

pub complete : (status : ℕ) (command : Option Command) (before : Option (List ℕ)) (faults_before faults_now : ℕ) (WriteFails : Type 0) → (status ≡ 7 → WriteFails)
    → IfSome before (λ bytes. IsGiven command bytes faults_before faults_now → (status ≡ 8) ⊎ IsReplied (reply_to bytes) status)
    → IfSome before (λ bytes. IsGiven command bytes faults_before faults_now → HasNoRefusal bytes → ¬ WriteFails → (status ≡ 0) ⊎ (status ≡ 8))
complete status command None faults_before faults_now WriteFails fault reply = tt
complete status command (Some bytes) faults_before faults_now WriteFails fault reply =
    λ given valid writes. valid_answered bytes status valid (λ seven. writes (fault seven)) (reply given)

-- with status 7 the sink's count of faults rose
pub rose_at : (before now status : ℕ) → now ≡ faults_after (status == 7) before → status ≡ 7 → Rose before now
rose_at before now status counted seven =
    let one : now ≡ faults_after true before = subst (λ (k : ℕ). now ≡ faults_after (k == 7) before) seven counted in
    omega (arith, one)
