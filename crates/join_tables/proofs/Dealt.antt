-- Rows that are dealt with the null keys among them.
use Rattle.std.proofs.Common.{◌≡◌, ℕ, eqb, true, List, length, Some, None, refl}
use Rattle.std.specs.List.{range_with_len}
use Rattle.list_laws.proofs.Each.{Each-all}
use Rattle.list_laws.proofs.Filters.{filter_same}
use Rattle.list_laws.proofs.Lists.{map_same}
use Rattle.hash_keys.specs.Keys.{Key, key_at}
use Rattle.hash_keys.specs.Dealt.{goes_to, dealt_front, deals as dealt_with}
use Rattle.join_laws.specs.Partitions.{dealt, deals}

goes_anywhere : (part : Key → ℕ) (p : ℕ) (key : Key) → goes_to part true p key ≡ eqb (part key) p
goes_anywhere part p None = refl
goes_anywhere part p (Some key) = refl

-- every row goes to the partition of its key
pub deals_all : (part : Key → ℕ) (n : ℕ) (keys : List Key) → dealt_with part true n keys ≡ deals part n keys
deals_all part n keys = map_same (dealt_front part true keys (length keys)) (λ p. dealt part p keys) (range_with_len 0 n) (Each-all _ _ (λ p. filter_same _ _ (range_with_len 0 (length keys)) (Each-all _ _ (λ i. goes_anywhere part p (key_at keys i)))))
