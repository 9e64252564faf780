-- Keys that came to a list of distinct keys.
use Rattle.std.specs.Prelude.{◌≡◌, ◌<◌, ◌+◌, ◌⊎◌, ℕ, Bool, List, map, fold, length, take}
use Rattle.std.specs.List.{position_or_len}
use Rattle.list_laws.specs.Distinct.{with_new}

-- the index of a key
abbrev pub index_in : {K : Type 0} → (K → K → Bool) → List K → K → ℕ
index_in E keys k = position_or_len (λ s. E s k) keys

-- all of them came: the keys are those of before and then the new ones, and the indexes are the places of those that came
pub record TookKeys {K : Type 0} (E : K → K → Bool) (ks old new : List K) (idxs : List ℕ) : Type 0 where
  pub keys_are : new ≡ fold (with_new E) old ks
  pub idxs_are : idxs ≡ map (index_in E new) ks

-- the first so many came, not all, at a step each; the one that was refused may have been searched
pub record TookFront {K : Type 0} (E : K → K → Bool) (ks old new : List K) (idxs : List ℕ) (steps_old steps_new : ℕ) : Type 0 where
  pub taken : ℕ
  pub some_left : taken < length ks
  pub took : TookKeys E (take taken ks) old new idxs
  pub cost : (steps_new ≡ steps_old + taken) ⊎ (steps_new ≡ steps_old + taken + 1)
