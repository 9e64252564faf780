-- What the bytes of a request mean: the text that answers it, or why there is none.
use Rattle.std.specs.Prelude.{ℕ, ◌≡◌, ◌≤◌, ◌⊎◌, List, Option, Some, None, Result, Ok, Err, IsOkAnd}
use Rattle.join_request.specs.declared.error.RequestError.{RequestError}
use Rattle.join_request.specs.declared.reader.Request.{Request}
use Rattle.join_request.specs.Request.{request_of}
use Rattle.join_model.specs.Answers.{answer_rows, answer_groups}
use Rattle.join_query.specs.declared.error.QueryError.{QueryError}
use Rattle.join_model.specs.Refusals.{refusal_of}
use Rattle.join_text.specs.Text.{answer_text_of}
use Rattle.join_command.specs.declared.error.ToolError.{ToolError}
use Rattle.join_command.specs.declared.error.ToolError.TheVariants as errors
use Rattle.join_command.specs.Errors.{status_of}

-- the text of a request's answer: its joined rows and their groups
abbrev pub text_of : Request → List ℕ
text_of r = answer_text_of (answer_rows r.query r.build r.probe) (answer_groups r.query r.build r.probe)

-- this text, unless the query is refused
abbrev pub text_unless : List ℕ → Option QueryError → Result (List ℕ) ToolError
text_unless text None = Ok text
text_unless text (Some e) = Err (errors.Query e)

-- the reply to what was read: the text of the answer, or the refusal of the request or of its query
abbrev pub reply_of : Result Request RequestError → Result (List ℕ) ToolError
reply_of (Ok r) = text_unless (text_of r) (refusal_of r.query r.build r.probe)
reply_of (Err e) = Err (errors.Request e)

abbrev pub reply_to : List ℕ → Result (List ℕ) ToolError
reply_to bytes = reply_of (request_of bytes)

-- the bytes are a request whose query has no refusal
abbrev pub HasNoRefusal : List ℕ → Type 0
HasNoRefusal bytes = IsOkAnd (request_of bytes) (λ r. refusal_of r.query r.build r.probe ≡ None)

-- why there is no text: want of memory, or the refusal that is the reply
abbrev pub IsCause : Result (List ℕ) ToolError → ToolError → Type 0
IsCause reply e = (status_of e ≡ 8) ⊎ ((5 ≤ status_of e) × (status_of e ≤ 6) × (reply ≡ Err e))
