use Rattle.std.proofs.Common.{◌≡◌, ◌<◌, ◌+◌, ◌^◌, ◌∙◌, ◌++◌, ◌∷◌, [], ap, ap₂, sym, subst, List, ℕ, None, map, length, bytes_eq, arith}
use Rattle.std.specs.List.{All, position}
use Rattle.std.proofs.lemmas.List.{length-append}
use Rattle.key_parts.specs.Hashes.{hash_of}
use Rattle.byte_map.specs.Entries.{Entry, keys_of, place}
use Rattle.chunked_idx_table.specs.Tables.{KeyEntry, ProbeTable}
use Rattle.chunked_idx_table.specs.Inserts.{with_position}
use Rattle.chunked_idx_table.specs.Words.{Words, key_entry, position_kept, IsKept}
use Rattle.chunked_idx_table.proofs.Marks.{keys_seen, comes_kept}
use Rattle.chunked_idx_table.proofs.Rows.{word_new, kept_new, room_for_new}
use Rattle.chunked_idx_table.proofs.row_encoded.RowEncodedChunkedIdxTable.insert_present.Goals as goal

pub find_or_push-requires-clause-few : goal.find_or_push-requires-clause-few
find_or_push-requires-clause-few g c = λ none.
    let x = position_kept c.args.word in
    let few = subst (λ (t : ProbeTable). length (with_position t.entries c.args.key.now x) + length t.nulls < 2 ^ 32) (sym c.self.view_is) c.requires.few in
    omega (arith, room_for_new c.self.inside.known.entries c.self.inside.nulls.items c.args.key.now x none few)

pub find_or_push-requires-clause-comes : goal.find_or_push-requires-clause-comes
find_or_push-requires-clause-comes g c =
    comes_kept c.self.inside.random_state c.self.inside.known.entries c.args.hash c.args.key.now c.self.invariant.keys
    (c.requires.hashed ∙ ap (λ (t : ProbeTable). hash_of t.state c.args.key.now) (sym c.self.view_is))

pub add_at-requires : goal.add_at-requires
add_at-requires g c =
    let f = rw c.in-Ok-Old.field-0-is at c.in-Ok-Old.ensures.ok in
    ap (position (bytes_eq c.args.key.now)) (keys_seen c.find_or_push.new.self.entries ∙ ap keys_of f.2) ∙ f.0

pub invariant_of-self-in-Ok-New : goal.invariant_of-self-in-Ok-New
invariant_of-self-in-Ok-New g c =
    let f = rw c.in-Ok-New.field-0-is at c.in-Ok-New.ensures.ok in
    let es = c.self.inside.known.entries in
    let x = position_kept c.args.word in
    let few = subst (λ (t : ProbeTable). length (with_position t.entries c.args.key.now x) + length t.nulls < 2 ^ 32) (sym c.self.view_is) c.requires.few in
    let items : c.push_reserved.new.self.items ≡ c.args.word ∷ [] = c.push_reserved.ensures.items ∙ ap (λ (ws : List ℕ). ws ++ c.args.word ∷ []) c.new-first.ensures.items in
    let e : Entry Words = record { hash = c.args.hash; key = c.args.key.now; value = c.push_reserved.new.self } in
    let hashed = c.requires.hashed ∙ ap (λ (t : ProbeTable). hash_of t.state c.args.key.now) (sym c.self.view_is) in
    record {
      keys = subst (All (IsKept c.self.inside.random_state)) (sym f.2) (kept_new c.self.inside.random_state es e c.args.word c.self.invariant.keys hashed items);
      positions = c.self.invariant.positions;
      few = omega (arith, ap length f.2, length-append es (e ∷ []), room_for_new es c.self.inside.nulls.items c.args.key.now x f.0 few);
    }

pub returns-in-Ok-New-clause-ok : goal.returns-in-Ok-New-clause-ok
returns-in-Ok-New-clause-ok g c =
    let f = rw c.in-Ok-New.field-0-is at c.in-Ok-New.ensures.ok in
    let es = c.self.inside.known.entries in
    let items : c.push_reserved.new.self.items ≡ c.args.word ∷ [] = c.push_reserved.ensures.items ∙ ap (λ (ws : List ℕ). ws ++ c.args.word ∷ []) c.new-first.ensures.items in
    let e : Entry Words = record { hash = c.args.hash; key = c.args.key.now; value = c.push_reserved.new.self } in
    let made = ap (map key_entry) f.2 ∙ word_new es e c.args.word f.0 items c.requires.unmarked ∙ ap (λ (t : ProbeTable). with_position t.entries c.args.key.now (position_kept c.args.word)) c.self.view_is in
    ap₂ (λ (entries : List KeyEntry) (t : ProbeTable). record { entries = entries; nulls = t.nulls; chunks = t.chunks; state = t.state }) made c.self.view_is
