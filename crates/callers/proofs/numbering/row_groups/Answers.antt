use Rattle.std.proofs.Common.{◌≡◌, List, bytes_eq, length, map, true, is_some, sym, subst, ap, ◌∙◌, arith}
use Rattle.std.specs.List.{All}
use Rattle.std.proofs.lemmas.List.{length-map}
use Rattle.col_core.specs.declared.schema.Field.{Field}
use Rattle.row_code.specs.Spelling.{IsSpelling, row_spelling}
use Rattle.hash_keys.specs.Keys.{Key}
use Rattle.hash_keys.specs.Views.{keys_of}
use Rattle.key_groups.specs.Groups.{KeyGroups, bytes_of, with_keys}
use Rattle.key_groups.specs.Taken.{index_in}
use Rattle.join_laws.proofs.Bounds.{length-distinct}
use Rattle.callers.proofs.Numbered.{all_present, all_spelled, bytes_are}
use Rattle.callers.proofs.numbering.row_groups.Goals as goal

pub insert_keys-requires-clause-present : goal.insert_keys-requires-clause-present
insert_keys-requires-clause-present g c =
    let rows = c.args.rows.now in
    subst (λ (ks : List Key). All (λ k. is_some k ≡ true) ks) (sym c.in_ok-keys.ensures.keys) (all_present rows.schema rows.rows)

pub insert_keys-requires-clause-spelled : goal.insert_keys-requires-clause-spelled
insert_keys-requires-clause-spelled g c =
    let rows = c.args.rows.now in
    let schema = ap (λ (k : KeyGroups). k.schema) c.in_ok-grouper.ensures ∙ c.in_ok-schema.ensures ∙ c.schema.ensures in
    let bytes = ap bytes_of c.in_ok-keys.ensures.keys ∙ bytes_are rows.schema rows.rows in
    subst (λ (s : List Field). All (IsSpelling s) (bytes_of (keys_of c.in_ok-keys.keys))) (sym schema)
    (subst (All (IsSpelling rows.schema)) (sym bytes) (all_spelled rows.schema rows.rows c.in_ok-keys.ensures.rows))

pub insert_keys-requires-clause-few : goal.insert_keys-requires-clause-few
insert_keys-requires-clause-few g c =
    let rows = c.args.rows.now in
    let given = bytes_of (keys_of c.in_ok-keys.keys) in
    let bytes = ap bytes_of c.in_ok-keys.ensures.keys ∙ bytes_are rows.schema rows.rows in
    let keys = ap (λ (k : KeyGroups). with_keys k.keys given) c.in_ok-grouper.ensures in
    omega (arith, ap length keys, length-distinct bytes_eq given, ap length bytes, length-map rows.rows (row_spelling rows.schema), c.requires.few)

pub returns-clause-places : goal.returns-clause-places
returns-clause-places g c =
    let rows = c.args.rows.now in
    c.in_ok-insert_keys.ensures.ok.idxs_are
    ∙ ap (map (index_in bytes_eq c.insert_keys.new.self.keys)) (ap bytes_of c.in_ok-keys.ensures.keys ∙ bytes_are rows.schema rows.rows)
