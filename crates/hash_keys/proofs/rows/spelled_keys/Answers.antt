use Rattle.std.proofs.Common.{◌∙◌, List, ℕ, Bool, Some, map, ap, ap₂, sym}
use Rattle.col_arrays.specs.Items.{item_of, with_validity}
use Rattle.col_core.specs.Tables.{selected}
use Rattle.hash_keys.specs.Rows.{row_keys}
use Rattle.hash_keys.proofs.Spelled.{keys_valid, keys_full, keys_masked}
use Rattle.hash_keys.proofs.rows.spelled_keys.Goals.{then-null_is_valid-via-then-null_is_valid, then-null_is_valid-via-else-null_is_valid+then-not-have_nulls}
use Rattle.hash_keys.proofs.rows.spelled_keys.Goals as goal

pub returns-then-null_is_valid-clause-keys : goal.returns-then-null_is_valid-clause-keys
returns-then-null_is_valid-clause-keys c =
    let t = selected c.args.places.now c.args.df.now in
    ap (map (item_of {T = List ℕ})) c.in_ok-spelled.ensures.items
    ∙ elim c.then-null_is_valid.branch [
      | then-null_is_valid-via-then-null_is_valid w ↦ keys_valid t ∙ ap (λ (v : Bool). row_keys v t) (sym w.if-null_is_valid.true)
      | then-null_is_valid-via-else-null_is_valid+then-not-have_nulls w ↦ keys_full c.args.null_is_valid c.args.df.now c.args.places.now (sym w.have_nulls.ensures ∙ w.if-not-have_nulls.true)
    ]

pub returns-clause-keys : goal.returns-clause-keys
returns-clause-keys c =
    let t = selected c.args.places.now c.args.df.now in
    ap (map (item_of {T = List ℕ})) (c.with_validity.ensures ∙ ap₂ with_validity c.in_ok-spelled.ensures.items (ap Some c.in_ok-present.ensures))
    ∙ keys_masked t ∙ ap (λ (v : Bool). row_keys v t) (sym c.if-null_is_valid.false)
