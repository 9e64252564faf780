-- What a reduction of groups is, and how calls lead from its states to others.
use Rattle.std.specs.Prelude.{◌≡◌, ◌<◌, ℕ, Bool, List, take, length, slice_set, slice_index_or}
use Rattle.col_core.specs.declared.leaf.Leaf.{Leaf}
use Rattle.col_core.specs.declared.data_type.DataType.{DataType}
use Rattle.reduce_model.specs.declared.kind.ReductionKind.{ReductionKind}
use Rattle.reduce_states.specs.States.{Entry, State, start, merge, after}
use Rattle.reduce_states.specs.Moves.{entered, states_at, ones}

-- what a reduction is but for its states; `form` tells the representation, which the kind and the column type determine
pub record Shape : Type 0 where
  pub kind : ReductionKind
  pub dtype : DataType
  pub fixed : Bool
  pub groups : ℕ
  pub form : ℕ

-- what two reductions share whose states can be merged
abbrev pub AreAlike : Shape → Shape → Type 0
AreAlike a b = (a.kind ≡ b.kind) × (a.dtype ≡ b.dtype) × (a.form ≡ b.form)

-- the states `ys` enter the groups `gs`: H held of the states before, and H' holds of those after
unfoldable pub Enters : Shape → (List State → Type 0) → (List State → Type 0) → (List State → Type 0) → List ℕ → Type 0
Enters s H Y H' gs = (xs ys : List State) → H xs → Y ys → H' (entered (start s.kind s.dtype) (merge s.kind s.dtype) xs gs ys)

-- a front part has entered, and not all
unfoldable pub EntersFront : Shape → (List State → Type 0) → (List State → Type 0) → (List State → Type 0) → List ℕ → Type 0
EntersFront s H Y H' gs = (n : ℕ) × (n < length gs)
    × ((xs ys : List State) → H xs → Y ys → H' (entered (start s.kind s.dtype) (merge s.kind s.dtype) xs (take n gs) (take n ys)))

-- the states of values, all with one number
unfoldable pub OnesOf : Shape → ℕ → List Leaf → List State → Type 0
OnesOf s n values ys = ys ≡ ones s.kind s.dtype n values

-- the states of a reduction's groups `gs`
unfoldable pub Gathered : Shape → (List State → Type 0) → List ℕ → List State → Type 0
Gathered s H gs ys = (zs : List State) × H zs × (ys ≡ states_at s.kind s.dtype zs gs)

-- the states stay
abbrev pub Stays : (List State → Type 0) → (List State → Type 0) → Type 0
Stays H H' = (xs : List State) → H xs → H' xs

-- entries that enter one group
abbrev pub entered_at : Shape → List State → ℕ → List Entry → List State
entered_at s xs g es = slice_set xs g (after s.kind s.dtype (slice_index_or xs g (start s.kind s.dtype)) es)
