-- What is kept of the values of a group.
use Rattle.std.specs.Prelude.{◌≡◌, ◌≢◌, ◌≤◌, ◌+ℤ◌, ℕ, ℤ, pos, List, [], ◌∷◌, fold, Option, Some, None}
use Rattle.std.specs.List.{All}
use Rattle.std.specs.declared.cmp.Ordering.{Ordering}
use Rattle.std.specs.Ordering.{nat_cmp, on, flip_args}
use Rattle.col_core.specs.declared.leaf.Leaf.{Leaf}
use Rattle.col_core.specs.declared.leaf.Leaf.TheVariants as leaves
use Rattle.col_core.specs.declared.data_type.DataType.{DataType}
use Rattle.reduce_model.specs.declared.kind.ReductionKind.{ReductionKind}
use Rattle.reduce_model.specs.declared.kind.ReductionKind.TheVariants as kinds
use Rattle.reduce_model.specs.Orders.{leaf_cmp, least_by}
use Rattle.reduce_model.specs.Folds.{wrap_in, sum_leaf}

-- a value that enters a group, and its sequence number
pub record Entry : Type 0 where
  pub number : ℕ
  pub value : Leaf

-- a state is one entry or none; that of a sum, of a least or of a greatest has the number 0
abbrev pub State : Type 0
State = Option Entry

-- the value that a state gives
abbrev pub out : State → Leaf
out None = leaves.Null
out (Some e) = e.value

abbrev pub unnumbered : Leaf → Entry
unnumbered v = record { number = 0; value = v }

abbrev pub by_number : Entry → Entry → Ordering
by_number = on (λ e. e.number) nat_cmp

-- what a value adds to a sum
abbrev pub amount : Leaf → ℤ
amount (leaves.Whole z) = z
amount _ = pos 0

-- a sum as a state, wrapped in the type that keeps it
abbrev pub total : DataType → ℤ → State
total t z = Some (unnumbered (sum_leaf t (wrap_in t z)))

-- a value as a state, and a null as none
abbrev pub present : Leaf → State
present leaves.Null = None
present v = Some (unnumbered v)

-- the state of nothing
abbrev pub start : ReductionKind → DataType → State
start kinds.Sum t = total t (pos 0)
start _ t = None

-- the state of one entry
abbrev pub one : ReductionKind → DataType → Entry → State
one kinds.Sum t e = total t (amount e.value)
one kinds.Min t e = present e.value
one kinds.Max t e = present e.value
one kinds.First t e = Some e
one kinds.Last t e = Some e

-- what two kept entries make together, a before b: the earlier of two first numbers, the later of two last ones
abbrev pub join : ReductionKind → DataType → Entry → Entry → State
join kinds.Sum t a b = total t (amount a.value +ℤ amount b.value)
join kinds.Min t a b = Some (unnumbered (least_by leaf_cmp a.value b.value))
join kinds.Max t a b = Some (unnumbered (least_by (flip_args leaf_cmp) a.value b.value))
join kinds.First t a b = Some (least_by by_number a b)
join kinds.Last t a b = Some (least_by (flip_args by_number) b a)

-- what two states make together, a before b
abbrev pub merge : ReductionKind → DataType → State → State → State
merge k t None b = b
merge k t (Some a) None = Some a
merge k t (Some a) (Some b) = join k t a b

-- a state that entries enter, one after the other
abbrev pub after : ReductionKind → DataType → State → List Entry → State
after k t s es = fold (λ s e. merge k t s (one k t e)) s es

-- the state of entries
abbrev pub state_of : ReductionKind → DataType → List Entry → State
state_of k t es = after k t (start k t) es

-- the state of nothing is neutral for a state
pub record IsState (k : ReductionKind) (t : DataType) (s : State) : Type 0 where
  pub left : merge k t (start k t) s ≡ s
  pub right : merge k t s (start k t) ≡ s

-- no number stands in both lists
abbrev pub Apart : List Entry → List Entry → Type 0
Apart xs ys = All (λ x. All (λ y. x.number ≢ y.number) ys) xs

-- the numbers do not fall
abbrev pub IsInOrder : List Entry → Type 0
IsInOrder [] = Unit {0}
IsInOrder (e ∷ es) = All (λ x. e.number ≤ x.number) es × IsInOrder es
