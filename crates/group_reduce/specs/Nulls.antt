-- Sums over texts and bytes.
use Rattle.std.specs.Prelude.{◌≡◌, ℕ, zero, suc, Bool, true, false, List, length, replicate}
use Rattle.std.proofs.Common.{sym, ap, subst, ◌∙◌}
use Rattle.std.proofs.lemmas.List.{length-replicate}
use Rattle.list_laws.specs.Each.{Each}
use Rattle.col_core.specs.declared.data_type.DataType.{DataType}
use Rattle.col_core.specs.declared.data_type.DataType.TheVariants as types
use Rattle.reduce_model.specs.declared.kind.ReductionKind.TheVariants.{Sum}
use Rattle.reduce_states.specs.States.{State, IsState, start}
use Rattle.reduce_states.proofs.Merged.{IsState-start}

-- the types of texts and of bytes
abbrev pub are_bytes : DataType → Bool
are_bytes types.String = true
are_bytes types.Binary = true
are_bytes _ = false

pub null_length : (n : ℕ) (t : DataType) (xs : List State) → xs ≡ replicate n (start Sum t) → length xs ≡ n
null_length n t xs h = ap length h ∙ length-replicate n (start Sum t)

all_alike : (P : State → Type 0) (n : ℕ) (x : State) → P x → Each P (replicate n x)
all_alike P zero x p = tt
all_alike P (suc n) x p = (p, all_alike P n x p)

pub null_states : (n : ℕ) (t : DataType) (xs : List State) → xs ≡ replicate n (start Sum t) → Each (IsState Sum t) xs
null_states n t xs h = subst (λ (ys : List State). Each (IsState Sum t) ys) (sym h) (all_alike (IsState Sum t) n (start Sum t) (IsState-start Sum t))
