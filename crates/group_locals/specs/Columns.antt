-- What the calls of a reduction leave, one call after the other.
use Rattle.std.specs.Prelude.{◌≡◌, ℕ, List, []}
use Rattle.col_core.specs.declared.leaf.Leaf.{Leaf}
use Rattle.reduce_states.specs.States.{State}
use Rattle.reduce_states.specs.Reductions.{Shape}
use Rattle.reduce_states.specs.Moves.{entered, cut_or_filled, ones}
use Rattle.list_laws.specs.Places.{PairsFrom}
use Rattle.group_locals.specs.Rows.{start_of, merge_of}
use Rattle.group_locals.specs.Locals.{sized}

-- so many groups, and states that entered the groups gs
abbrev pub entered_states : Shape → ℕ → List ℕ → List State → List State → List State
entered_states s groups gs xs ys = entered (start_of s) (merge_of s) (cut_or_filled (start_of s) xs groups) gs ys

-- a reduction after values with one number entered
pub record EntersColumn {R : Type 0} (shape : R → Shape) (holds : R → List State → Type 0) (groups : ℕ) (gs : List ℕ) (number : ℕ) (values : List Leaf) (a b : R) : Type 0 where
  pub shape_is : shape b ≡ sized groups (shape a)
  pub states : (xs : List State) → holds a xs → holds b (entered_states (shape a) groups gs xs (ones (shape a).kind (shape a).dtype number values))

-- a reduction after the groups of another entered
pub record CombinesColumn {R : Type 0} (shape : R → Shape) (holds : R → List State → Type 0) (groups : ℕ) (gs : List ℕ) (a o b : R) : Type 0 where
  pub shape_is : shape b ≡ sized groups (shape a)
  pub states : (xs ys : List State) → holds a xs → holds o ys → holds b (entered_states (shape a) groups gs xs ys)

-- a reduction of the same shape without groups
pub record IsEmptied {R : Type 0} (shape : R → Shape) (holds : R → List State → Type 0) (a b : R) : Type 0 where
  pub shape_is : shape b ≡ sized 0 (shape a)
  pub none : holds b []

abbrev pub AreEmptied : {R : Type 0} → (R → Shape) → (R → List State → Type 0) → List R → List R → Type 0
AreEmptied shape holds olds news = PairsFrom (λ r a b. IsEmptied shape holds a b) 0 olds news
