-- What the calls below the engine leave, list by list.
use Rattle.std.specs.Prelude.{◌≡◌, ℕ, ◌-◌, eqb, Bool, List, [], ◌++◌, map, filter, flat_map, fold, length, get_or, replicate, zip}
use Rattle.std.specs.List.{range_with_len, position_or_len}
use Rattle.join_laws.specs.Locals.{Local, merge_one}
use Rattle.list_laws.specs.Distinct.{distinct, with_new}

-- the index of a key
abbrev pub index_in : {K : Type 0} → (K → K → Bool) → List K → K → ℕ
index_in E keys k = position_or_len (λ s. E s k) keys

-- a grouper after keys came
pub record TookKeys {K : Type 0} (E : K → K → Bool) (ks old new : List K) (idxs : List ℕ) : Type 0 where
  pub keys_are : new ≡ fold (with_new E) old ks
  pub idxs_are : idxs ≡ map (index_in E new) ks

-- states for n groups, the new ones empty
abbrev pub resized : {V : Type 0} → V → List V → ℕ → List V
resized empty values n = values ++ replicate (n - length values) empty

-- the items that enter group g
abbrev pub entering : {X : Type 0} → List ℕ → List X → ℕ → List X
entering idxs xs g = map (λ p. p.1) (filter (λ p. eqb p.0 g) (zip idxs xs))

-- a reduction after items entered its groups: each group merges the state of its new items
abbrev pub updated : {X V : Type 0} → (List X → V) → (V → V → V) → List ℕ → List X → List V → List V
updated F M idxs xs values = map (λ g. M (get_or values g (F [])) (F (entering idxs xs g))) (range_with_len 0 (length values))

-- a reduction after the groups of another were merged into its groups, in the order of the indexes
abbrev pub combined : {V : Type 0} → V → (V → V → V) → List ℕ → List V → List V → List V
combined empty M idxs others values = map (λ g. fold M (get_or values g empty) (entering idxs others g)) (range_with_len 0 (length values))

-- what a merge has made of the local states done so far, in their order: for one column
pub record MergedSoFar {K V : Type 0} (E : K → K → Bool) (M : V → V → V) (empty : V) (done : List (Local K V)) (keys : List K) (values : List V) : Type 0 where
  pub keys_are : keys ≡ distinct E (flat_map (λ l. l.keys) done)
  pub values_are : values ≡ map (λ k. fold (merge_one E M empty k) empty done) keys
