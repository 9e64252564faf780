-- Pairs of rows, and the rows that they stand for.
use Rattle.std.specs.Prelude.{ℕ, Bool, cond, List, [], ◌∷◌, map, filter, flat_map, length, get_or, Option, Some, None}
use Rattle.std.specs.List.{range_with_len}
use Rattle.join_laws.specs.Deals.{all_places, key_at, keys_join, partners}
use Rattle.col_core.specs.declared.row_place.RowPlace.{RowPlace}
use Rattle.join_laws.specs.declared.Pair.{Pair}

-- what stands for a row with its partners, or for the row alone
abbrev pub with_partners : {A B : Type 0} → Bool → B → (A → B) → List A → List B
with_partners keep lone beside [] = cond keep (lone ∷ []) []
with_partners keep lone beside (x ∷ xs) = map beside (x ∷ xs)

-- the pairs of probe row i with some build rows
abbrev pub pairs_with : Bool → ℕ → List RowPlace → List Pair
pairs_with keep i xs = with_partners keep (record { probe = Some i; build = None }) (λ x. record { probe = Some i; build = Some x }) xs

module _ {K : Type 0} (E : K → K → Bool) (part : Option K → ℕ) (frames : List (List (Option K))) (keep : Bool) where
  -- the pairs of a morsel, by probes of the tables
  abbrev pub probed_pairs : List (Option K) → List Pair
  probed_pairs keys = flat_map (λ i. pairs_with keep i (partners E part frames (get_or keys i None))) (range_with_len 0 (length keys))

  -- the same, by a loop over all build rows
  abbrev pub nested_pairs : List (Option K) → List Pair
  nested_pairs keys = flat_map (λ i. pairs_with keep i (filter (λ x. keys_join E (get_or keys i None) (key_at E part frames x)) (all_places E part frames))) (range_with_len 0 (length keys))

module _ {Row : Type 0} (none : Row) (probe : List Row) (build : List (List Row)) (alone : Row → Row) (beside : Row → Row → Row) (outer : Row → Row) where
  abbrev pub build_at : RowPlace → Row
  build_at x = get_or (get_or build x.frame []) x.row none

  abbrev pub probe_at : ℕ → Row
  probe_at i = get_or probe i none

  abbrev pub joined : Option ℕ → Option RowPlace → Row
  joined (Some i) (Some x) = beside (probe_at i) (build_at x)
  joined (Some i) None = alone (probe_at i)
  joined None (Some x) = outer (build_at x)
  joined None None = none

  abbrev pub pair_row : Pair → Row
  pair_row p = joined p.probe p.build
