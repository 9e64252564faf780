-- Which rows go to which partition, and what sketches take of them.
use Rattle.std.specs.Prelude.{ℕ, Bool, ◌&&◌, ◌||◌, ◌==◌, cond, List, [], ◌∷◌, map, filter, length, Some, None, is_some, slice_index_or}
use Rattle.std.specs.List.{range_with_len, flat_map}
use Rattle.key_parts.specs.Sketches.{with_hashes}
use Rattle.hash_keys.specs.Keys.{Key, key_at}

-- a key goes to partition p; a null one only where nulls are dealt
abbrev pub goes_to : (Key → ℕ) → Bool → ℕ → Key → Bool
goes_to part nulls p key = (is_some key || nulls) && (part key == p)

-- the rows of partition p among the first n rows
abbrev pub dealt_front : (Key → ℕ) → Bool → List Key → ℕ → ℕ → List ℕ
dealt_front part nulls keys n p = filter (λ i. goes_to part nulls p (key_at keys i)) (range_with_len 0 n)

-- these lists for each partition
abbrev pub deals_front : (Key → ℕ) → Bool → ℕ → List Key → ℕ → List (List ℕ)
deals_front part nulls partitions keys n = map (dealt_front part nulls keys n) (range_with_len 0 partitions)

-- the rows of each partition
abbrev pub deals : (Key → ℕ) → Bool → ℕ → List Key → List (List ℕ)
deals part nulls partitions keys = deals_front part nulls partitions keys (length keys)

-- the hash of a key that is present and of partition p
abbrev pub hash_in : (Key → ℕ) → (List ℕ → ℕ) → ℕ → Key → List ℕ
hash_in part hash p None = []
hash_in part hash p (Some key) = cond (part (Some key) == p) (hash key ∷ []) []

-- sketches, each with the hashes of its partition's present keys among the first n rows
abbrev pub sketched_front : (Key → ℕ) → (List ℕ → ℕ) → List (List ℕ) → List Key → ℕ → List (List ℕ)
sketched_front part hash sketches keys n =
    map (λ p. with_hashes (slice_index_or sketches p []) (flat_map (λ i. hash_in part hash p (key_at keys i)) (range_with_len 0 n))) (range_with_len 0 (length sketches))

-- sketches, each with the hashes of its partition's present keys
abbrev pub sketched : (Key → ℕ) → (List ℕ → ℕ) → List (List ℕ) → List Key → List (List ℕ)
sketched part hash sketches keys = sketched_front part hash sketches keys (length keys)
