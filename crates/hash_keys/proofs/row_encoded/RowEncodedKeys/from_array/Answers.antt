use Rattle.std.proofs.Common.{◌∙◌, ◌++◌, ◌∷◌, [], ap, ap₂, List, ℕ}
use Rattle.col_arrays.specs.Items.{stored}
use Rattle.hash_keys.proofs.Hashed.{hash_more}
use Rattle.hash_keys.proofs.row_encoded.RowEncodedKeys.from_array.Goals as goal

pub loop-i-preserved : goal.loop-i-preserved
loop-i-preserved c =
    c.in_ok-push.ensures.items
    ∙ ap₂ (λ (front : List ℕ) (hash : ℕ). front ++ hash ∷ []) c.loop-i.invariant c.hash_one.ensures
    ∙ hash_more c.args.random_state (stored c.args.keys) c.loop-i.i c.value.result.now c.value.ensures
