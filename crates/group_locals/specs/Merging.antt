-- Local states merged into one, in their order.
use Rattle.std.specs.Prelude.{◌≡◌, ℕ, min, List, [], ◌∷◌, map, flat_map, length, bytes_eq}
use Rattle.reduce_states.specs.States.{State}
use Rattle.reduce_states.specs.Reductions.{Shape}
use Rattle.reduce_states.specs.Moves.{entered, cut_or_filled}
use Rattle.key_groups.specs.Groups.{with_keys}
use Rattle.list_laws.specs.Distinct.{distinct}
use Rattle.list_laws.specs.Places.{PairsFrom, At}
use Rattle.join_laws.specs.Locals.{Local, merged}
use Rattle.join_laws.specs.Steps.{index_in}
use Rattle.group_locals.specs.declared.local.LocalState.{LocalState}
use Rattle.group_locals.specs.Rows.{start_of, merge_of, top}
use Rattle.group_locals.specs.Locals.{Grouping, IsOf}
use Rattle.group_locals.specs.Columns.{CombinesColumn}

-- where keys stand among others
abbrev pub places_in : List (List ℕ) → List (List ℕ) → List ℕ
places_in new given = map (index_in bytes_eq new) given

-- a local state l after another one, o, was merged into it
pub record LocalMerges {R : Type 0} (shape : R → Shape) (holds : R → List State → Type 0) (l o m : LocalState R) : Type 0 where
  pub grouper_is : m.grouper ≡ record l.grouper { keys = with_keys l.grouper.keys o.grouper.keys }
  pub firsts_are : m.first_rows ≡ entered top min (cut_or_filled top l.first_rows (length m.grouper.keys)) (places_in m.grouper.keys o.grouper.keys) o.first_rows
  pub columns : PairsFrom (λ r a b. At (λ c. CombinesColumn shape holds (length m.grouper.keys) (places_in m.grouper.keys o.grouper.keys) a c b) r o.reductions) 0 l.reductions m.reductions

-- all keys of local states, local state by local state
abbrev pub keys_in : {R : Type 0} → List (LocalState R) → List (List ℕ)
keys_in ls = flat_map (λ l. l.grouper.keys) ls

-- the first rows of a local state, as a column
abbrev pub first_column : {R : Type 0} → LocalState R → Local (List ℕ) ℕ
first_column l = record { keys = l.grouper.keys; values = l.first_rows }

-- the merged first row of a key
abbrev pub merged_first : {R : Type 0} → List (LocalState R) → List ℕ → ℕ
merged_first ls k = merged bytes_eq min top (map first_column ls) k

-- states that reduction r has in each local state, as columns
abbrev pub AreColumns : {R : Type 0} → (R → List State → Type 0) → ℕ → List (LocalState R) → List (Local (List ℕ) State) → Type 0
AreColumns holds r [] [] = Unit {0}
AreColumns holds r [] (c ∷ cs) = ⊥
AreColumns holds r (l ∷ ls) [] = ⊥
AreColumns holds r (l ∷ ls) (c ∷ cs) = (c.keys ≡ l.grouper.keys) × At (λ a. holds a c.values) r l.reductions × AreColumns holds r ls cs

-- the states of a key in all local states that have it, merged in their order
abbrev pub merged_state : Shape → List (Local (List ℕ) State) → List ℕ → State
merged_state s cs k = merged bytes_eq (merge_of s) (start_of s) cs k

-- a local state into which those of a list were merged, and nothing else
pub record MergesAll {R : Type 0} (shape : R → Shape) (holds : R → List State → Type 0) (of : Grouping) (done : List (LocalState R)) (m : LocalState R) : Type 0 where
  pub is_of : IsOf shape of m
  pub keys_are : m.grouper.keys ≡ distinct bytes_eq (keys_in done)
  pub firsts_are : m.first_rows ≡ map (merged_first done) m.grouper.keys
  pub states : PairsFrom (λ r s a. (cs : List (Local (List ℕ) State)) → AreColumns holds r done cs → holds a (map (merged_state s cs) m.grouper.keys)) 0 of.shapes m.reductions
