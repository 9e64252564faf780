-- A list of states, one for each group, as values and states enter it.
use Rattle.std.specs.Prelude.{ℕ, ◌-◌, List, [], ◌∷◌, ◌++◌, map, take, length, replicate, slice_set, slice_index_or}
use Rattle.col_core.specs.declared.leaf.Leaf.{Leaf}
use Rattle.col_core.specs.declared.data_type.DataType.{DataType}
use Rattle.reduce_model.specs.declared.kind.ReductionKind.{ReductionKind}
use Rattle.reduce_states.specs.States.{Entry, State, start, one}

-- item i of ys enters group i of gs, one after the other: `M` of what the group has and of the item; d is what is read past the end
abbrev pub entered : {A B : Type 0} → A → (A → B → A) → List A → List ℕ → List B → List A
entered d M xs [] ys = xs
entered d M xs (g ∷ gs) [] = xs
entered d M xs (g ∷ gs) (y ∷ ys) = entered d M (slice_set xs g (M (slice_index_or xs g d) y)) gs ys

-- as many items as are wanted: cut, or filled up with d
abbrev pub cut_or_filled : {A : Type 0} → A → List A → ℕ → List A
cut_or_filled d xs n = take n xs ++ replicate (n - length xs) d

-- values, all with one number
abbrev pub numbered : ℕ → List Leaf → List Entry
numbered n values = map (λ v. record { number = n; value = v }) values

-- the states of values, one by one, all with one number
abbrev pub ones : ReductionKind → DataType → ℕ → List Leaf → List State
ones k t n values = map (one k t) (numbered n values)

-- the states of some groups
abbrev pub states_at : ReductionKind → DataType → List State → List ℕ → List State
states_at k t xs gs = map (λ g. slice_index_or xs g (start k t)) gs
