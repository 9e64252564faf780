use Rattle.std.proofs.Common.{◌≡◌, ◌∙◌, ◌++◌, [], ◌∷◌, ℕ, Bool, true, List, ap, sym, subst}
use Rattle.std.specs.List.{All}
use Rattle.std.proofs.lemmas.List.{map-append}
use Rattle.std.proofs.lemmas.List.Elements.{All-push}
use Rattle.col_arrays.specs.Items.{stored}
use Rattle.col_core.specs.declared.schema.Field.{Field}
use Rattle.row_code.specs.Spelling.{Spelled, IsSpelling}
use Rattle.row_code.proofs.decode.RowDecoder.push_row.Goals as goal

pub invariant_of-self-2 : goal.invariant_of-self-2
invariant_of-self-2 c =
    let bytes = c.args.bytes.now in
    let schema = c.self.inside.schema in
    let taken = c.self.inside.taken in
    let more : stored c.push.new.self ≡ stored taken ++ bytes ∷ [] = ap stored c.in_ok-push.ensures.ok ∙ map-append (λ (item : List ℕ × Bool). item.0) taken ((bytes, true) ∷ []) in
    let spelled : IsSpelling schema bytes = subst (λ (fields : List Field). IsSpelling fields bytes) (sym (ap (λ (d : Spelled). d.schema) c.self.view_is)) c.requires in
    subst (All (IsSpelling schema)) (sym more) (All-push (IsSpelling schema) (stored taken) bytes c.self.invariant spelled)

pub invariant_of-self : goal.invariant_of-self
invariant_of-self c = subst (λ (items : List (List ℕ × Bool)). All (IsSpelling c.self.inside.schema) (stored items)) (sym c.in_err-push.ensures.err) c.self.invariant
