use Rattle.std.proofs.Common.{◌≡◌, ◌<◌, ◌^◌, ◌∙◌, ◌∷◌, [], ap, sym, subst, ℕ, List, Option, Some}
use Rattle.std.specs.Prelude.{option_copied}
use Rattle.std.specs.Borrow.{Bor}
use Rattle.std.proofs.lemmas.Result.{on_ok_weaker}
use Rattle.key_parts.specs.Positions.{Position, position_of}
use Rattle.chunked_idx_table.specs.Tables.{ProbeTable, size_of}
use Rattle.chunked_idx_table.specs.Inserts.{with_position, with_rows}
use Rattle.chunked_idx_table.specs.Words.{position_kept}
use Rattle.chunked_idx_table.proofs.Kept.{low_word, kept_as}
use Rattle.chunked_idx_table.proofs.Rows.{row_taken}
use Rattle.chunked_idx_table.proofs.row_encoded.RowEncodedChunkedIdxTable.insert_row.Goals as goal

pub insert_present-requires-clause-unmarked : goal.insert_present-requires-clause-unmarked
insert_present-requires-clause-unmarked g c =
    let x : Position = record { chunk = c.self.inside.num_chunks; row = c.args.row } in
    low_word c.into_inner.result x (c.into_inner.ensures ∙ c.store-id.ensures) c.requires.row

pub insert_present-requires-clause-few : goal.insert_present-requires-clause-few
insert_present-requires-clause-few g c =
    let t = c.args.self.now in
    let x : Position = record { chunk = t.chunks; row = c.args.row } in
    let word = c.into_inner.result in
    let chunk : c.self.inside.num_chunks ≡ t.chunks = ap (λ (u : ProbeTable). u.chunks) c.self.view_is in
    let is : position_of word ≡ Some x = c.into_inner.ensures ∙ c.store-id.ensures ∙ ap (λ (n : ℕ). Some (record x { chunk = n })) chunk in
    let kept : position_kept word ≡ x = kept_as word x is (low_word word x is c.requires.row) in
    let e = ap (λ (key : Option (Bor (List ℕ))). with_rows c.args.track t ((option_copied key, x) ∷ [])) c.in-Some.is ∙ row_taken c.args.track t c.in-Some.key.now x ∙ ap (λ (y : Position). record t { entries = with_position t.entries c.in-Some.key.now y }) (sym kept) in
    subst (λ (u : ProbeTable). size_of u < 2 ^ 32) e c.requires.few

pub returns-in-Some-clause-ok : goal.returns-in-Some-clause-ok
returns-in-Some-clause-ok g c =
    let t = c.args.self.now in
    let x : Position = record { chunk = t.chunks; row = c.args.row } in
    let word = c.into_inner.result in
    let chunk : c.self.inside.num_chunks ≡ t.chunks = ap (λ (u : ProbeTable). u.chunks) c.self.view_is in
    let is : position_of word ≡ Some x = c.into_inner.ensures ∙ c.store-id.ensures ∙ ap (λ (n : ℕ). Some (record x { chunk = n })) chunk in
    let kept : position_kept word ≡ x = kept_as word x is (low_word word x is c.requires.row) in
    let e = ap (λ (key : Option (Bor (List ℕ))). with_rows c.args.track t ((option_copied key, x) ∷ [])) c.in-Some.is ∙ row_taken c.args.track t c.in-Some.key.now x ∙ ap (λ (y : Position). record t { entries = with_position t.entries c.in-Some.key.now y }) (sym kept) in
    on_ok_weaker c.insert_present.result (λ made. made ∙ sym e) c.insert_present.ensures.ok
