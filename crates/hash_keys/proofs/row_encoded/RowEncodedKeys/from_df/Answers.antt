use Rattle.std.proofs.Common.{◌≡◌, ◌<◌, ◌∙◌, ℕ, List, length, ap, sym, subst, arith}
use Rattle.std.specs.List.{All, range_with_len}
use Rattle.std.proofs.lemmas.Result.{IfOk-weaker}
use Rattle.col_core.specs.Tables.{Table, selected}
use Rattle.col_core.proofs.Rows.{range_within}
use Rattle.row_code.specs.Spelling.{IsRowOf}
use Rattle.hash_keys.specs.Rows.{row_keys}
use Rattle.hash_keys.proofs.Spelled.{selected_all}
use Rattle.hash_keys.proofs.row_encoded.RowEncodedKeys.from_df.Goals as goal

pub from_columns-requires-clause-in_bounds : goal.from_columns-requires-clause-in_bounds
from_columns-requires-clause-in_bounds c =
    let n = length c.args.df.now.schema in
    let are : c.deref.result.now ≡ range_with_len 0 n = c.deref.ensures.value ∙ c.in_ok-places.ensures ∙ ap (λ (k : ℕ). range_with_len 0 k) (c.len.ensures ∙ ap length c.schema.ensures) in
    subst (All (λ (i : ℕ). i < n)) (sym are) (range_within 0 n n (omega arith))

pub returns-clause-keys : goal.returns-clause-keys
returns-clause-keys c =
    let t = c.args.df.now in
    let are : c.deref.result.now ≡ range_with_len 0 (length t.schema) = c.deref.ensures.value ∙ c.in_ok-places.ensures ∙ ap (λ (k : ℕ). range_with_len 0 k) (c.len.ensures ∙ ap length c.schema.ensures) in
    let whole : selected c.deref.result.now t ≡ t = ap (λ (places : List ℕ). selected places t) are ∙ selected_all t c.height-height.ensures.wide in
    IfOk-weaker c.from_columns.result _ _ (λ k is. is ∙ ap (λ (x : Table). record { state = c.args.random_state; keys = row_keys c.args.null_is_valid x }) whole) c.from_columns.ensures.keys

pub returns-clause-rows : goal.returns-clause-rows
returns-clause-rows c =
    let t = c.args.df.now in
    let are : c.deref.result.now ≡ range_with_len 0 (length t.schema) = c.deref.ensures.value ∙ c.in_ok-places.ensures ∙ ap (λ (k : ℕ). range_with_len 0 k) (c.len.ensures ∙ ap length c.schema.ensures) in
    let whole : selected c.deref.result.now t ≡ t = ap (λ (places : List ℕ). selected places t) are ∙ selected_all t c.height-height.ensures.wide in
    IfOk-weaker c.from_columns.result _ _ (λ k is. subst (λ (x : Table). All (IsRowOf x.schema) x.rows) whole is) c.from_columns.ensures.rows
