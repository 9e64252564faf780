-- What the calls of a reducer do to the states that its values stand for.
use Rattle.std.specs.Prelude.{◌≡◌, ◌+◌, ℕ, Bool, true, false, List, Some, None, replicate}
use Rattle.std.specs.List.{All, AllZip, zip}
use Rattle.col_core.specs.declared.leaf.Leaf.{Leaf}
use Rattle.col_core.specs.declared.leaf.Leaf.TheVariants as leaves
use Rattle.col_core.specs.declared.data_type.DataType.{DataType}
use Rattle.reduce_model.specs.declared.kind.ReductionKind.{ReductionKind}
use Rattle.reduce_states.specs.States.{Entry, State, one, merge, after}
use Rattle.reduce_states.specs.Moves.{numbered}
use Rattle.reduce_states.specs.Reductions.{Shape}

-- a value of a column has entered a kept value; sequence numbers of reducers are one above those of entries
unfoldable pub TakesOne : {V : Type 0} → (V → State → Type 0) → ReductionKind → ℕ → Leaf → V → V → Type 0
TakesOne stands k seq_id leaf old new = (t : DataType) (n : ℕ) (x : State) → seq_id ≡ n + 1 → stands old x
    → stands new (merge k t x (one k t (record { number = n; value = leaf })))

-- values of a column have entered a kept value, one after the other
unfoldable pub TakesAll : {V : Type 0} → (V → State → Type 0) → ReductionKind → ℕ → List Leaf → V → V → Type 0
TakesAll stands k seq_id values old new = (t : DataType) (n : ℕ) (x : State) → seq_id ≡ n + 1 → stands old x
    → stands new (after k t x (numbered n values))

-- a kept value has been merged into another
unfoldable pub Merges : {V : Type 0} → (V → State → Type 0) → ReductionKind → V → V → V → Type 0
Merges stands k old other new = (t : DataType) (x y : State) → stands old x → stands other y → stands new (merge k t x y)

-- every kept value fits the column type
abbrev pub AllFit : {V : Type 0} → (DataType → V → Bool) → DataType → List V → Type 0
AllFit fits t vs = All (λ v. fits t v ≡ true) vs

-- the item that a kept value gives: null where its bit hides it, else what the states that it stands for give
pub record IsFinished {V : Type 0} (stands : V → State → Type 0) (tells_none : Bool) (shown : V × Bool) (leaf : Leaf) : Type 0 where
  pub hidden : shown.1 ≡ false → leaf ≡ leaves.Null
  pub kept : shown.1 ≡ true → (e : Entry) → stands shown.0 (Some e) → leaf ≡ e.value
  pub none : shown.1 ≡ true → tells_none ≡ true → stands shown.0 None → leaf ≡ leaves.Null

-- the items that kept values give, each with its bit
abbrev pub AreFinished : {V : Type 0} → (V → State → Type 0) → Bool → List V → List Bool → List Leaf → Type 0
AreFinished stands tells_none vs bits leaves = AllZip (IsFinished stands tells_none) (zip vs bits) leaves

-- no bit hides a value
abbrev pub all_shown : ℕ → List Bool
all_shown n = replicate n true

-- a shape of which the kind and the type are known
abbrev pub of_kind : ReductionKind → DataType → Shape
of_kind k t = record { kind = k; dtype = t; fixed = true; groups = 0; form = 0 }
