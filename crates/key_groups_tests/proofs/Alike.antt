-- Groupers of one schema, and how many keys one has after others came.
use Rattle.std.proofs.Common.{◌≡◌, ◌+◌, ◌<◌, ◌^◌, ℕ, true, List, length, bytes_eq, sym, arith}
use Rattle.std.proofs.lemmas.List.{length-map}
use Rattle.col_core.specs.declared.schema.Field.{Field}
use Rattle.col_core.specs.Schemas.{schema_eq}
use Rattle.col_core.proofs.Equalities.{schema_eq-Decides}
use Rattle.join_laws.proofs.Bounds.{length-distinct_from}
use Rattle.key_groups.specs.Groups.{with_keys, keys_at, key_at}

pub same_schema : (a b : List Field) → schema_eq a b ≡ true → b ≡ a
same_schema a b h = sym ((schema_eq-Decides a b).0 h)

pub few_keys : (keys given : List (List ℕ)) → length keys + length given < 2 ^ 32 → length (with_keys keys given) < 2 ^ 32
few_keys keys given few =
    let most = length-distinct_from bytes_eq keys given in
    omega arith

pub few_gathered : (keys given : List (List ℕ)) (idxs : List ℕ) → length keys + length idxs < 2 ^ 32 → length (with_keys keys (keys_at given idxs)) < 2 ^ 32
few_gathered keys given idxs few =
    let most = length-distinct_from bytes_eq keys (keys_at given idxs) in
    let same = length-map idxs (key_at given) in
    omega arith
