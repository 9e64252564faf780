-- The rows of all partitions are all rows.
use Rattle.std.proofs.Common.{◌≡◌, ℕ, ◌+◌, eqb, true, List, filter, flat_map, length}
use Rattle.std.specs.List.{list_any, range_with_len}
use Rattle.std.proofs.lemmas.List.{length-append}
use Rattle.list_laws.specs.Each.{Each}
use Rattle.list_laws.proofs.Buckets.{all_bucketed}
use Rattle.list_laws.proofs.Each.{Each-all}
use Rattle.list_laws.proofs.Ranges.{eqb-Decides, range_apart}
use Rattle.std.proofs.Common.{refl}

-- the lists of all partitions hold each row once, so their lengths sum to the number of rows
pub parts_long : (part : ℕ → ℕ) (n : ℕ) (is : List ℕ) → Each (λ i. list_any (λ s. eqb s (part i)) (range_with_len 0 n) ≡ true) is → length (flat_map (λ p. filter (λ i. eqb (part i) p) is) (range_with_len 0 n)) ≡ length is
parts_long part n is h = all_bucketed (λ (i : ℕ). Unit {0}) (λ (xs : List ℕ). length xs) (λ a b. a + b) (λ xs ys gx gy. length-append xs ys) eqb eqb-Decides part (λ i j gi gj e. refl) is (range_with_len 0 n) (Each-all _ is (λ i. tt)) (range_apart 0 n) h
