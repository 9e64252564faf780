-- Tables by partition, and what probes of them give.
use Rattle.std.specs.Prelude.{ℕ, eqb, Bool, false, not, List, [], ◌∷◌, ◌++◌, map, filter, flat_map, length, get_or, Option, Some, None, is_none}
use Rattle.std.specs.List.{range_with_len}
use Rattle.join_laws.specs.Locals.{at_key}
use Rattle.list_laws.specs.Distinct.{distinct}
use Rattle.key_parts.specs.Positions.{Position}
use Rattle.col_core.specs.declared.row_place.RowPlace.{RowPlace}

-- the present keys
abbrev pub present : {K : Type 0} → List (Option K) → List K
present [] = []
present (None ∷ ks) = present ks
present (Some k ∷ ks) = k ∷ present ks

-- a key, null or not, is k
abbrev pub is_key : {K : Type 0} → (K → K → Bool) → K → Option K → Bool
is_key E k None = false
is_key E k (Some j) = E j k

-- two keys join: both are present and equal
abbrev pub keys_join : {K : Type 0} → (K → K → Bool) → Option K → Option K → Bool
keys_join E None b = false
keys_join E (Some k) b = is_key E k b

module _ {K : Type 0} (E : K → K → Bool) (part : Option K → ℕ) (frames : List (List (Option K))) where
  abbrev pub frame_keys : ℕ → List (Option K)
  frame_keys f = get_or frames f []

  -- the places of a list whose key is of a partition
  abbrev pub dealt : ℕ → List (Option K) → List ℕ
  dealt p keys = filter (λ i. eqb (part (get_or keys i None)) p) (range_with_len 0 (length keys))

  -- the rows of all frames
  abbrev pub all_places : List RowPlace
  all_places = flat_map (λ f. map (λ i. record { frame = f; row = i }) (range_with_len 0 (length (frame_keys f)))) (range_with_len 0 (length frames))

  abbrev pub key_at : RowPlace → Option K
  key_at x = get_or (frame_keys x.frame) x.row None

  -- what chunk f puts into table p: the key of each of its rows, and its position
  abbrev pub chunk : ℕ → ℕ → List (Option K × Position)
  chunk p f = map (λ j. (get_or (frame_keys f) (get_or (dealt p (frame_keys f)) j 0) None, record { chunk = f; row = j })) (range_with_len 0 (length (dealt p (frame_keys f))))

  -- what all chunks put into table p
  abbrev pub inserted : ℕ → List (Option K × Position)
  inserted p = flat_map (chunk p) (range_with_len 0 (length frames))

  -- the positions in table p of the keys that pass a test
  abbrev pub positions_where : (Option K → Bool) → ℕ → List Position
  positions_where q p = map (λ e. e.1) (filter (λ e. q e.0) (inserted p))

  -- the keys, each key's positions and the null positions of table p
  abbrev pub table_keys : ℕ → List K
  table_keys p = distinct E (present (map (λ e. e.0) (inserted p)))

  abbrev pub table_positions : ℕ → K → List Position
  table_positions p k = positions_where (is_key E k) p

  abbrev pub null_positions : ℕ → List Position
  null_positions p = positions_where is_none p

  -- the build row of a position
  abbrev pub build_row : ℕ → Position → RowPlace
  build_row p x = record { frame = x.chunk; row = get_or (dealt p (frame_keys x.chunk)) x.row 0 }

  -- what a probe of the key's table gives, as build rows
  abbrev pub partners : Option K → List RowPlace
  partners None = []
  partners (Some k) = map (build_row (part (Some k))) (at_key E (table_keys (part (Some k))) (map (table_positions (part (Some k))) (table_keys (part (Some k)))) k [])

  -- the positions of the null rows and of the unmarked keys of table p
  abbrev pub unmarked_positions : (K → Bool) → ℕ → List Position
  unmarked_positions marked p = null_positions p ++ flat_map (table_positions p) (filter (λ k. not (marked k)) (table_keys p))

  -- the build rows of unmarked keys and the null rows of all tables, not yet in build order
  abbrev pub unmatched : (K → Bool) → ℕ → List RowPlace
  unmatched marked n = flat_map (λ p. map (build_row p) (unmarked_positions marked p)) (range_with_len 0 n)
