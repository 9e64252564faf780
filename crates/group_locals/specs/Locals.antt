-- Local states: which fit, and what rows make of one.
use Rattle.std.specs.Prelude.{◌≡◌, ◌<◌, ◌≤◌, ◌+◌, ◌⊎◌, ℕ, true, min, is_some, List, [], map, flat_map, length, zip, bytes_eq}
use Rattle.std.specs.List.{All}
use Rattle.col_core.specs.declared.schema.Field.{Field}
use Rattle.col_core.specs.Tables.{Column}
use Rattle.key_parts.specs.declared.hash.PlRandomState.{PlRandomState}
use Rattle.hash_keys.specs.declared.keys.HashKeys.{HashKeys}
use Rattle.hash_keys.specs.Views.{keys_of, state_of}
use Rattle.key_groups.specs.Groups.{KeyGroups, bytes_of, with_keys}
use Rattle.row_code.specs.Spelling.{IsSpelling}
use Rattle.reduce_states.specs.States.{State}
use Rattle.reduce_states.specs.Reductions.{Shape}
use Rattle.list_laws.specs.Each.{Each}
use Rattle.list_laws.specs.Distinct.{NoRepeat}
use Rattle.list_laws.specs.Places.{PairsFrom}
use Rattle.join_laws.specs.Locals.{Entry, at_key, of_key}
use Rattle.group_locals.specs.declared.local.LocalState.{LocalState}
use Rattle.group_locals.specs.Rows.{KeyedRow, entry_key, merge_of, column_state, top, first_number}

-- what local states group for: the key schema, the state that keys are hashed under, and the shape of each reduction
pub record Grouping : Type 0 where
  pub schema : List Field
  pub state : PlRandomState
  pub shapes : List Shape

-- a shape with so many groups
abbrev pub sized : ℕ → Shape → Shape
sized n s = record s { groups = n }

-- the grouping of a grouper and of reductions
abbrev pub grouping_of : KeyGroups → List Shape → Grouping
grouping_of g shapes = record { schema = g.schema; state = g.state; shapes = shapes }

-- a local state is of a grouping: each reduction has a group for each key
pub record IsOf {R : Type 0} (shape : R → Shape) (of : Grouping) (l : LocalState R) : Type 0 where
  pub schema_is : l.grouper.schema ≡ of.schema
  pub state_is : l.grouper.state ≡ of.state
  pub shapes_are : map shape l.reductions ≡ map (sized (length l.grouper.keys)) of.shapes

-- it fits: its keys are distinct, and each has a first row
pub record LocalFits {R : Type 0} (shape : R → Shape) (of : Grouping) (l : LocalState R) : Type 0 where
  pub is_of : IsOf shape of l
  pub distinct : NoRepeat bytes_eq l.grouper.keys
  pub long : length l.first_rows ≡ length l.grouper.keys
  pub below : Each (λ f. f < top) l.first_rows

-- keys with their first rows
abbrev pub kept : {R : Type 0} → LocalState R → List (List ℕ × ℕ)
kept l = zip l.grouper.keys l.first_rows

-- different keys have different first rows
abbrev pub FirstsDiffer : List (List ℕ × ℕ) → Type 0
FirstsDiffer ps = Each (λ p. Each (λ q. p.1 ≡ q.1 → p.0 ≡ q.0) ps) ps

-- local states of a grouping
pub record LocalsFit {R : Type 0} (shape : R → Shape) (of : Grouping) (locals : List (LocalState R)) : Type 0 where
  pub each : Each (LocalFits shape of) locals
  pub apart : FirstsDiffer (flat_map kept locals)

-- no first row is one of so many numbers from a first one on
abbrev pub AreFresh : ℕ → ℕ → List (List ℕ × ℕ) → Type 0
AreFresh first count ps = Each (λ p. (p.1 < first) ⊎ (first + count ≤ p.1)) ps

-- keys, none of them null, that spell rows of the key schema, and columns that can enter the local states of a grouping
pub record RowsFit (of : Grouping) (keys : HashKeys) (columns : List Column) : Type 0 where
  pub present : All (λ k. is_some k ≡ true) (keys_of keys)
  pub spelled : All (IsSpelling of.schema) (bytes_of (keys_of keys))
  pub state_is : state_of keys ≡ of.state
  pub types_are : map (λ c. c.dtype) columns ≡ map (λ s. s.dtype) of.shapes
  pub heights : Each (λ c. length c.values ≡ length (keys_of keys)) columns

-- the values of keys, each that of before merged with that of the key's new entries
abbrev pub taken_values : {V : Type 0} → (List (Entry KeyedRow) → V) → (V → V → V) → List (List ℕ) → List V → List (Entry KeyedRow) → List (List ℕ) → List V
taken_values F M old values es new = map (λ k. M (at_key bytes_eq old values k (F [])) (F (of_key bytes_eq entry_key es k))) new

-- reduction r after some entries entered: its groups were those of the keys old, and are those of the keys new
pub record TakesColumn {R : Type 0} (shape : R → Shape) (holds : R → List State → Type 0) (old new : List (List ℕ)) (es : List (Entry KeyedRow)) (r : ℕ) (a b : R) : Type 0 where
  pub shape_is : shape b ≡ sized (length new) (shape a)
  pub states : (xs : List State) → holds a xs → holds b (taken_values (column_state (shape a) r) (merge_of (shape a)) old xs es new)

-- a local state after some entries entered: new keys stand at the end, each first row is the least number, each state has merged that of the key's new entries
pub record LocalTakes {R : Type 0} (shape : R → Shape) (holds : R → List State → Type 0) (es : List (Entry KeyedRow)) (l m : LocalState R) : Type 0 where
  pub grouper_is : m.grouper ≡ record l.grouper { keys = with_keys l.grouper.keys (map entry_key es) }
  pub firsts_are : m.first_rows ≡ taken_values first_number min l.grouper.keys l.first_rows es m.grouper.keys
  pub columns : PairsFrom (TakesColumn shape holds l.grouper.keys m.grouper.keys es) 0 l.reductions m.reductions
