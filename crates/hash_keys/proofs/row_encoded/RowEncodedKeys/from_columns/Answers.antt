use Rattle.std.proofs.Common.{◌<◌, ◌^◌, ◌∙◌, ℕ, length, sym, subst}
use Rattle.hash_keys.proofs.Spelled.{count_of_keys}
use Rattle.hash_keys.proofs.row_encoded.RowEncodedKeys.from_columns.Goals as goal

-- as many keys as rows
pub from_array-requires : goal.from_array-requires
from_array-requires c =
    subst (λ (n : ℕ). n < 2 ^ 32) (sym (count_of_keys c.args.null_is_valid c.args.places.now c.args.df.now c.in_ok-keys.keys c.in_ok-keys.ensures.keys)) c.requires.few
