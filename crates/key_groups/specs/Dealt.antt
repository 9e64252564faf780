-- Keys dealt to partitions.
use Rattle.std.specs.Prelude.{◌≡◌, ◌<◌, ℕ, false, List, map, length, Some}
use Rattle.hash_keys.specs.Keys.{Key}
use Rattle.hash_keys.specs.Dealt.{deals_front, sketched_front}

-- keys, of which none is null
abbrev pub all_present : List (List ℕ) → List Key
all_present keys = map (λ k. Some k) keys

-- the first so many keys were dealt, not all
pub record DealtFront (part : Key → ℕ) (hash : List ℕ → ℕ) (partitions : ℕ) (old : List (List ℕ)) (keys : List Key) (lists new : List (List ℕ)) : Type 0 where
  pub dealt : ℕ
  pub some_left : dealt < length keys
  pub lists_are : lists ≡ deals_front part false partitions keys dealt
  pub sketches_are : new ≡ sketched_front part hash old keys dealt
