use Rattle.std.proofs.Common.{◌≡◌, ◌<◌, ◌^◌, ◌∙◌, ◌∷◌, [], ℕ, List, ap, sym, subst, length, bytes_eq, arith}
use Rattle.std.specs.List.{All}
use Rattle.std.proofs.lemmas.List.{length-map, map-append}
use Rattle.std.proofs.lemmas.List.Elements.{All-push}
use Rattle.key_parts.specs.Hashes.{hash_of}
use Rattle.byte_map.specs.Entries.{Entry, keys_of}
use Rattle.row_code.specs.Spelling.{IsSpelling}
use Rattle.list_laws.specs.Distinct.{with_new}
use Rattle.key_groups.specs.Groups.{KeyGroups}
use Rattle.key_groups.specs.Taken.{index_in}
use Rattle.key_groups.proofs.Index.{old_key, new_key, room_for_new}
use Rattle.key_groups.proofs.Kept.{comes}
use Rattle.key_groups.proofs.row_encoded.RowEncodedHashGrouper.find_or_add.Goals as goal

pub find_or_push-requires-clause-few : goal.find_or_push-requires-clause-few
find_or_push-requires-clause-few g c = λ none.
    let es = c.self.inside.known.entries in
    let few = subst (λ (t : KeyGroups). length (with_new bytes_eq t.keys c.args.key.now) < 2 ^ 32) (sym c.self.view_is) c.requires.few in
    omega (arith, length-map es (λ e. e.key), room_for_new (keys_of es) c.args.key.now (2 ^ 32) none few)

pub find_or_push-requires-clause-comes : goal.find_or_push-requires-clause-comes
find_or_push-requires-clause-comes g c =
    comes c.self.inside.random_state c.self.inside.known.entries c.args.hash c.args.key.now c.self.invariant.hashed
    (c.requires.hashed ∙ ap (λ (t : KeyGroups). hash_of t.state c.args.key.now) (sym c.self.view_is))

pub invariant_of-self-in-Ok-New : goal.invariant_of-self-in-Ok-New
invariant_of-self-in-Ok-New g c =
    let f = rw c.in-Ok-New.field-0-is at c.in-Ok-New.ensures.ok in
    let es = c.self.inside.known.entries in
    let state = c.self.inside.random_state in
    let H : Entry (Unit {0}) → Type 0 = λ e. e.hash ≡ hash_of state e.key in
    let e : Entry (Unit {0}) = record { hash = c.args.hash; key = c.args.key.now; value = tt } in
    let hashed : H e = c.requires.hashed ∙ ap (λ (t : KeyGroups). hash_of t.state c.args.key.now) (sym c.self.view_is) in
    let S : Entry (Unit {0}) → Type 0 = λ e. IsSpelling c.self.inside.key_schema e.key in
    let spelled : S e = subst (λ (t : KeyGroups). IsSpelling t.schema c.args.key.now) (sym c.self.view_is) c.requires.spelled in
    record {
      hashed = subst (All H) (sym f.2) (All-push H es e c.self.invariant.hashed hashed);
      spelled = subst (All S) (sym f.2) (All-push S es e c.self.invariant.spelled spelled);
      some = c.self.invariant.some;
    }

pub returns-in-Ok-Old-clause-ok : goal.returns-in-Ok-Old-clause-ok
returns-in-Ok-Old-clause-ok g c =
    let f = rw c.in-Ok-Old.field-0-is at c.in-Ok-Old.ensures.ok in
    let same = ap keys_of f.2 ∙ sym (old_key (keys_of c.self.inside.known.entries) c.args.key.now c.in-Ok-Old.i f.0).0 in
    ap (λ (ks : List (List ℕ)). record { keys = ks; schema = c.self.inside.key_schema; state = c.self.inside.random_state }) same
    ∙ ap (λ (t : KeyGroups). record t { keys = with_new bytes_eq t.keys c.args.key.now }) c.self.view_is

pub returns-in-Ok-Old-clause-index : goal.returns-in-Ok-Old-clause-index
returns-in-Ok-Old-clause-index g c =
    let f = rw c.in-Ok-Old.field-0-is at c.in-Ok-Old.ensures.ok in
    (old_key (keys_of c.self.inside.known.entries) c.args.key.now c.in-Ok-Old.i f.0).1
    ∙ ap (λ (ks : List (List ℕ)). index_in bytes_eq ks c.args.key.now) (sym (ap keys_of f.2))

pub returns-in-Ok-New-clause-ok : goal.returns-in-Ok-New-clause-ok
returns-in-Ok-New-clause-ok g c =
    let f = rw c.in-Ok-New.field-0-is at c.in-Ok-New.ensures.ok in
    let es = c.self.inside.known.entries in
    let e : Entry (Unit {0}) = record { hash = c.args.hash; key = c.args.key.now; value = tt } in
    let more = ap keys_of f.2 ∙ map-append (λ e. e.key) es (e ∷ []) ∙ sym (new_key (keys_of es) c.args.key.now f.0).0 in
    ap (λ (ks : List (List ℕ)). record { keys = ks; schema = c.self.inside.key_schema; state = c.self.inside.random_state }) more
    ∙ ap (λ (t : KeyGroups). record t { keys = with_new bytes_eq t.keys c.args.key.now }) c.self.view_is

pub returns-in-Ok-New-clause-index : goal.returns-in-Ok-New-clause-index
returns-in-Ok-New-clause-index g c =
    let f = rw c.in-Ok-New.field-0-is at c.in-Ok-New.ensures.ok in
    let es = c.self.inside.known.entries in
    let e : Entry (Unit {0}) = record { hash = c.args.hash; key = c.args.key.now; value = tt } in
    let more = ap keys_of f.2 ∙ map-append (λ e. e.key) es (e ∷ []) in
    f.1 ∙ sym (length-map es (λ e. e.key)) ∙ (new_key (keys_of es) c.args.key.now f.0).1 ∙ ap (λ (ks : List (List ℕ)). index_in bytes_eq ks c.args.key.now) (sym more)
