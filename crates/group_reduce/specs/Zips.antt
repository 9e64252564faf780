-- Lists whose items go in pairs.
use Rattle.std.specs.Prelude.{◌≡◌, suc, List, [], ◌∷◌, length, refl}
use Rattle.std.specs.List.{AllZip}
use Rattle.std.proofs.Common.{ap}
use Rattle.list_laws.specs.Each.{Each}
use Rattle.col_core.specs.declared.data_type.DataType.{DataType}
use Rattle.reduce_model.specs.declared.kind.ReductionKind.{ReductionKind}
use Rattle.reduce_model.specs.declared.kind.ReductionKind.TheVariants as kinds
use Rattle.reduce_states.specs.States.{State, IsState}
use Rattle.reduce_states.proofs.Merged.{IsState-plain, start-plain}

pub AllZip-length : {A B : Type 0} (R : A → B → Type 0) (xs : List A) (ys : List B) → AllZip R xs ys → length ys ≡ length xs
AllZip-length R [] [] h = refl
AllZip-length R [] (y ∷ ys) h = absurd h
AllZip-length R (x ∷ xs) [] h = absurd h
AllZip-length R (x ∷ xs) (y ∷ ys) h = ap suc (AllZip-length R xs ys h.1)

-- where the state of nothing is none, whatever there is is a state
pub all_states : (k : ReductionKind) (t : DataType) (xs : List State) → (k ≡ kinds.Sum → ⊥) → Each (IsState k t) xs
all_states k t [] n = tt
all_states k t (x ∷ xs) n = (IsState-plain k t x (start-plain k t n), all_states k t xs n)
