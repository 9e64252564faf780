-- The reply to a request whose query is accepted.
use Rattle.std.proofs.Common.{◌≡◌, ℕ, List, None, Ok, ap, sym, ◌∙◌}
use Rattle.col_core.specs.Tables.{Table}
use Rattle.join_request.specs.declared.reader.Request.{Request}
use Rattle.join_model.specs.Answers.{answer_rows, answer_groups}
use Rattle.join_model.specs.Refusals.{refusal_of}
use Rattle.join_text.specs.Text.{answer_text_of}
use Rattle.join_command.specs.Replies.{text_of, text_unless, reply_of}

-- it is the text of the two tables that the engine gives for the query and these frames
pub answered_request : (r : Request) (build probe : List Table) (rows groups : Table) (text : List ℕ)
    → build ≡ r.build → probe ≡ r.probe → refusal_of r.query build probe ≡ None
    → rows ≡ answer_rows r.query build probe → groups ≡ answer_groups r.query build probe
    → text ≡ answer_text_of rows groups → reply_of (Ok r) ≡ Ok text
answered_request r build probe rows groups text same_build same_probe accepted rows_are groups_are text_is =
    let none : refusal_of r.query r.build r.probe ≡ None =
    ap (λ b. refusal_of r.query b r.probe) (sym same_build) ∙ (ap (λ p. refusal_of r.query build p) (sym same_probe) ∙ accepted) in
    let own_rows : rows ≡ answer_rows r.query r.build r.probe =
    rows_are ∙ (ap (λ b. answer_rows r.query b probe) same_build ∙ ap (λ p. answer_rows r.query r.build p) same_probe) in
    let own_groups : groups ≡ answer_groups r.query r.build r.probe =
    groups_are ∙ (ap (λ b. answer_groups r.query b probe) same_build ∙ ap (λ p. answer_groups r.query r.build p) same_probe) in
    let own_text : text ≡ text_of r =
    text_is ∙ (ap (λ t. answer_text_of t groups) own_rows ∙ ap (λ t. answer_text_of (answer_rows r.query r.build r.probe) t) own_groups) in
    ap (text_unless (text_of r)) none ∙ ap Ok (sym own_text)
