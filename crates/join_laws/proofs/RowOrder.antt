-- Pairs that stand by partition: how many each row has, and where they stand.
use Rattle.std.proofs.Common.{◌≡◌, ℕ, zero, suc, ◌+◌, ◌-◌, ◌<◌, ◌≤◌, eqb, Bool, true, false, not, ◌||◌, cond, List, [], ◌∷◌, ◌++◌, map, filter, flat_map, length, get_or, take, drop, refl, sym, ap, ap₂, ◌∙◌, subst, inl, inr, append-nil, append_assoc, arith, Option, Some, None, count_by}
use Rattle.std.specs.List.{list_any, range_with_len, All}
use Rattle.std.proofs.lemmas.Bool.{cases_lt, cases_Bool, cases_eq, eqb-true, eqb-false, eq-eqb, ne_eqb}
use Rattle.std.proofs.lemmas.List.{length-append, length-map, map-append, take_at, drop_at, length-drop, get_or-drop, take_more}
use Rattle.std.proofs.lemmas.List.Concat.{flat_map-append}
use Rattle.std.proofs.lemmas.List.Folds.{flat_map-map}
use Rattle.std.proofs.lemmas.List.Sums.{sum_by-append, sum_by-cons}
use mathlib.Core.List.{map-map}
use Rattle.std.proofs.lemmas.List.FromFn.{get_or-map-range_with_len, length-map-range_with_len}
use Rattle.hash_keys.specs.Gathered.{bumped, numbered}
use Rattle.hash_keys.specs.Keys.{Key}
use Rattle.join_laws.specs.declared.Pair.{Pair}
use Rattle.join_laws.specs.Partitions.{dealt, AtPair, IsFound, is_of, is_row, no_pair, pair_at}
use Rattle.col_core.specs.declared.row_place.RowPlace.{RowPlace}
use Rattle.key_parts.specs.Positions.{Position}
use Rattle.key_parts.specs.declared.hash.PlRandomState.{PlRandomState}
use Rattle.list_laws.proofs.Buckets.{all_bucketed}
use Rattle.list_laws.proofs.Each.{Each-all, Each-append, Each-map}
use Rattle.list_laws.proofs.Lists.{flat_map_more, get_or_past}
use Rattle.list_laws.proofs.Maps.{flat_map-flat_map}
use Rattle.list_laws.proofs.Ranges.{Each-range, eqb-Decides, in_range, range_apart}
use Rattle.list_laws.specs.Each.{Each}

-- counts
pub count_append : {X : Type 0} (p : X → Bool) (xs ys : List X) → count_by p (xs ++ ys) ≡ count_by p xs + count_by p ys
count_append p xs ys = sum_by-append (λ x. cond (p x) 1 0) xs ys

pub count_more : {X : Type 0} (p : X → Bool) (xs : List X) (i : ℕ) (d : X) → i < length xs → count_by p (take (i + 1) xs) ≡ count_by p (take i xs) + count_by p (get_or xs i d ∷ [])
count_more p xs i d h = ap (count_by p) (take_more xs i d h) ∙ count_append p (take i xs) (get_or xs i d ∷ [])

pub count_short : {X : Type 0} (p : X → Bool) (xs : List X) → count_by p xs ≤ length xs
count_short p [] = omega arith
count_short p (x ∷ xs) =
    let r = count_short p xs in
    let c = sum_by-cons (λ y. cond (p y) 1 0) x xs in
    let one : cond {A = ℕ} (p x) 1 0 ≤ 1 = small (p x) in
    omega arith
  where
    small : (b : Bool) → cond {A = ℕ} b 1 0 ≤ 1
    small true = omega arith
    small false = omega arith

pub count_front : {X : Type 0} (p : X → Bool) (xs : List X) (i : ℕ) → count_by p (take i xs) ≤ count_by p xs
count_front p xs zero = omega arith
count_front p [] (suc i) = omega arith
count_front p (x ∷ xs) (suc i) = omega (arith, count_front p xs i, sum_by-cons (λ y. cond (p y) 1 0) x (take i xs), sum_by-cons (λ y. cond (p y) 1 0) x xs)

weight_true : (b : Bool) → b ≡ true → cond {A = ℕ} b 1 0 ≡ 1
weight_true b e = ap (λ v. cond {A = ℕ} v 1 0) e

weight_false : (b : Bool) → b ≡ false → cond {A = ℕ} b 1 0 ≡ 0
weight_false b e = ap (λ v. cond {A = ℕ} v 1 0) e

-- the pairs of a row are of that row alone
is_row_self : (o : Option ℕ) (i : ℕ) → o ≡ Some i → is_row i o ≡ true
is_row_self o i e = ap (is_row i) e ∙ eq-eqb i i refl

is_row_other : (o : Option ℕ) (i j : ℕ) → o ≡ Some j → (j ≡ i → ⊥) → is_row i o ≡ false
is_row_other o i j e h = ap (is_row i) e ∙ ne_eqb j i h

pub own_count : (i : ℕ) (qs : List Pair) → Each (λ q. q.probe ≡ Some i) qs → count_by (is_of i) qs ≡ length qs
own_count i [] h = refl
own_count i (q ∷ qs) h = let c = sum_by-cons (λ y. cond (is_of i y) 1 0) q qs in let w = weight_true (is_of i q) (is_row_self q.probe i h.0) in let r = own_count i qs h.1 in omega arith

other_count : (i j : ℕ) → (j ≡ i → ⊥) → (qs : List Pair) → Each (λ q. q.probe ≡ Some j) qs → count_by (is_of i) qs ≡ 0
other_count i j ne [] h = refl
other_count i j ne (q ∷ qs) h = let c = sum_by-cons (λ y. cond (is_of i y) 1 0) q qs in let w = weight_false (is_of i q) (is_row_other q.probe i j h.0 ne) in let r = other_count i j ne qs h.1 in omega arith

module _ (g : ℕ → List Pair) (own : (i : ℕ) → Each (λ q. q.probe ≡ Some i) (g i)) where
  out_of_range : (i a n : ℕ) → ((k : ℕ) → a ≤ k → k < a + n → k ≡ i → ⊥) → count_by (is_of i) (flat_map g (range_with_len a n)) ≡ 0
  out_of_range i a zero h = refl
  out_of_range i a (suc n) h = omega (arith, count_append (is_of i) (g a) (flat_map g (range_with_len (a + 1) n)), other_count i a (h a (omega arith) (omega arith)) (g a) (own a), out_of_range i (a + 1) n (λ k l m. h k (omega arith) (omega arith)))

  within_range : (i a n : ℕ) → a ≤ i → i < a + n → count_by (is_of i) (flat_map g (range_with_len a n)) ≡ length (g i)
  within_range i a zero h l = absurd (omega arith)
  within_range i a (suc n) h l = elim (cases_eq a i) [
    | inl same ↦
        let rest = out_of_range i (a + 1) n (λ k l m e. omega arith) in
        let here = own_count a (g a) (own a) in
        let moved : count_by (is_of i) (g a) ≡ count_by (is_of a) (g a) = ap (λ k. count_by (is_of k) (g a)) (sym same) in
        omega (arith, count_append (is_of i) (g a) (flat_map g (range_with_len (a + 1) n)), rest, here, moved, ap (λ k. length (g k)) same)
    | inr other ↦ omega (arith, count_append (is_of i) (g a) (flat_map g (range_with_len (a + 1) n)), other_count i a other (g a) (own a), within_range i (a + 1) n (omega arith) (omega arith))
  ]

module _ (part : Key → ℕ) (n : ℕ) (below : (o : Key) → part o < n) (keys : List Key) (g : ℕ → List Pair) (found : List (List Pair)) (f : IsFound part n keys g found) where
  abbrev rows : List ℕ
  rows = range_with_len 0 (length keys)

  -- partition by partition as many as row by row
  by_rows : (i : ℕ) → count_by (is_of i) (flat_map (λ q. q) found) ≡ count_by (is_of i) (flat_map g rows)
  by_rows i =
      ap (count_by (is_of i)) (ap (flat_map (λ q. q)) f.found_are ∙ flat_map-map (λ (q : List Pair). q) (λ p. flat_map g (dealt part p keys)) (range_with_len 0 n) ∙ sym (flat_map-flat_map g (λ p. dealt part p keys) (range_with_len 0 n)))
      ∙ all_bucketed (λ (k : ℕ). Unit {0}) (λ is. count_by (is_of i) (flat_map g is)) (λ a b. a + b) (λ xs ys gx gy. ap (count_by (is_of i)) (flat_map-append g xs ys) ∙ count_append (is_of i) (flat_map g xs) (flat_map g ys)) eqb eqb-Decides (λ k. part (get_or keys k None)) (λ x y gx gy e. swap x y) rows (range_with_len 0 n) (Each-all _ rows (λ k. tt)) (range_apart 0 n) (Each-all _ rows (λ k. let b = below (get_or keys k None) in in_range 0 n (part (get_or keys k None)) (omega arith) (omega arith)))
    where
      swap : (x y : ℕ) → count_by (is_of i) (flat_map g (x ∷ y ∷ [])) ≡ count_by (is_of i) (flat_map g (y ∷ x ∷ []))
      swap x y = omega (arith, count_append (is_of i) (g x) (g y ++ []), count_append (is_of i) (g y) [], count_append (is_of i) (g y) (g x ++ []), count_append (is_of i) (g x) [])

  -- each row has as many pairs as it gives
  pub counts_are : (i : ℕ) → i < length keys → count_by (is_of i) (flat_map (λ q. q) found) ≡ length (g i)
  counts_are i h = by_rows i ∙ within_range g f.own i 0 (length keys) (omega arith) (omega arith)

  pub counts_out : (i : ℕ) → length keys ≤ i → count_by (is_of i) (flat_map (λ q. q) found) ≡ 0
  counts_out i h = by_rows i ∙ out_of_range g f.own i 0 (length keys) (λ k l m e. omega arith)

nil_cons : {X : Type 0} (y : X) (t : List X) → [] ≡ y ∷ t → ⊥
nil_cons y t e = cc

-- a list from a place on
drop_next : {X : Type 0} (a : ℕ) (xs : List X) (y : X) (t : List X) (d : X) → drop a xs ≡ y ∷ t → (get_or xs a d ≡ y) × (drop (suc a) xs ≡ t)
drop_next zero [] y t d e = absurd (nil_cons y t e)
drop_next zero (x ∷ xs) y t d e = (cc, cc)
drop_next (suc a) [] y t d e = absurd (nil_cons y t e)
drop_next (suc a) (x ∷ xs) y t d e = drop_next a xs y t d e

read_from : {X : Type 0} (xs ys rest : List X) (a : ℕ) (d : X) → drop a xs ≡ ys ++ rest → map (λ j. get_or xs j d) (range_with_len a (length ys)) ≡ ys
read_from xs [] rest a d e = refl
read_from xs (y ∷ ys) rest a d e =
    let h = drop_next a xs y (ys ++ rest) d e in
    let s : suc a ≡ a + 1 = omega arith in
    ap₂ (λ z t. z ∷ t) h.0 (read_from xs ys rest (a + 1) d (ap (λ n. drop n xs) (sym s) ∙ h.1))

drop_past : {X : Type 0} (xs ys rest : List X) (a : ℕ) → drop a xs ≡ ys ++ rest → drop (a + length ys) xs ≡ rest
drop_past xs [] rest a e = ap (λ n. drop n xs) (let s : a + 0 ≡ a = omega arith in s) ∙ e
drop_past xs (y ∷ ys) rest a e =
    let h = drop_next a xs y (ys ++ rest) y e in
    ap (λ n. drop n xs) (let s : a + suc (length ys) ≡ suc a + length ys = omega arith in s) ∙ drop_past xs ys rest (suc a) h.1

module _ (pt cnt : ℕ → ℕ) (g : ℕ → List Pair) (found : List (List Pair)) where
  -- the next places of each row hold its pairs
  pub numbered_are : (is : List ℕ) (next : ℕ → ℕ) → ((p : ℕ) → drop (next p) (get_or found p []) ≡ flat_map g (filter (λ i. eqb (pt i) p) is)) → Each (λ i. cnt i ≡ length (g i)) is → (map (pair_at found) (numbered pt cnt is next) ≡ flat_map g is) × Each (AtPair found) (numbered pt cnt is next)
  numbered_are [] next h c = (refl, tt)
  numbered_are (i ∷ is) next h c =
      let rest = numbered_are is (bumped next (pt i) (cnt i)) step c.1 in (
        map-append (pair_at found) block (numbered pt cnt is (bumped next (pt i) (cnt i)))
            ∙ ap₂ (λ a b. a ++ b) (map-map (pair_at found) (λ j. record { chunk = pt i; row = j }) (range_with_len (next (pt i)) (cnt i)) ∙ ap (λ n. map (λ j. get_or (get_or found (pt i) []) j no_pair) (range_with_len (next (pt i)) n)) c.0 ∙ read_from (get_or found (pt i) []) (g i) others (next (pt i)) no_pair here) rest.0,
        Each-append (AtPair found) block (numbered pt cnt is (bumped next (pt i) (cnt i))) inside rest.1,
      )
    where
      block : List Position
      block = map (λ j. record { chunk = pt i; row = j }) (range_with_len (next (pt i)) (cnt i))

      others : List Pair
      others = flat_map g (filter (λ j. eqb (pt j) (pt i)) is)

      here : drop (next (pt i)) (get_or found (pt i) []) ≡ g i ++ flat_map g (filter (λ j. eqb (pt j) (pt i)) is)
      here = h (pt i) ∙ rw (eq-eqb (pt i) (pt i) refl) refl

      inside : Each (AtPair found) (map (λ j. record { chunk = pt i; row = j }) (range_with_len (next (pt i)) (cnt i)))
      inside = Each-map (AtPair found) (λ j. record { chunk = pt i; row = j }) (range_with_len (next (pt i)) (cnt i)) (Each-range _ (next (pt i)) (cnt i) (λ k l m. omega (arith, ap length here, length-append (g i) (flat_map g (filter (λ j. eqb (pt j) (pt i)) is)), length-drop (next (pt i)) (get_or found (pt i) []), c.0)))

      step : (p : ℕ) → drop (bumped next (pt i) (cnt i) p) (get_or found p []) ≡ flat_map g (filter (λ j. eqb (pt j) p) is)
      step p = elim (cases_Bool (eqb (pt i) p)) [
        | inl same ↦
            let at : p ≡ pt i = sym (eqb-true (pt i) p same) in
            rw same (ap₂ (λ (q n : ℕ). drop (next q + n) (get_or found q [])) at c.0 ∙ drop_past (get_or found (pt i) []) (g i) (flat_map g (filter (λ j. eqb (pt j) (pt i)) is)) (next (pt i)) here ∙ ap (λ r. flat_map g (filter (λ j. eqb (pt j) r) is)) (sym at))
        | inr other ↦ rw other (h p ∙ skip p other)
      ]
        where
          skip : (p : ℕ) → eqb (pt i) p ≡ false → flat_map g (filter (λ j. eqb (pt j) p) (i ∷ is)) ≡ flat_map g (filter (λ j. eqb (pt j) p) is)
          skip p e = rw e refl

nothing_passes : {X : Type 0} (p : X → Bool) (xs : List X) → ((x : X) → p x ≡ false) → filter p xs ≡ []
nothing_passes p [] h = refl
nothing_passes p (x ∷ xs) h = rw (h x) (nothing_passes p xs h)

-- the pairs of a partition, also of one that there is not
pub found_at : (part : Key → ℕ) (n : ℕ) → ((o : Key) → part o < n) → (keys : List Key) (g : ℕ → List Pair) (found : List (List Pair)) → IsFound part n keys g found → (p : ℕ) → get_or found p [] ≡ flat_map g (dealt part p keys)
found_at part n below keys g found f p = ap (λ (l : List (List Pair)). get_or l p []) f.found_are ∙ elim (cases_lt p n) [
  | inl less ↦ get_or-map-range_with_len (λ q. flat_map g (dealt part q keys)) 0 n p p [] less (omega arith)
  | inr past ↦ get_or_past (map (λ q. flat_map g (dealt part q keys)) (range_with_len 0 n)) p [] (omega (arith, length-map-range_with_len (λ q. flat_map g (dealt part q keys)) 0 n)) ∙ ap (flat_map g) (sym (nothing_passes (λ i. eqb (part (get_or keys i None)) p) (range_with_len 0 (length keys)) (λ i. ne_eqb (part (get_or keys i None)) p (λ e. let b = below (get_or keys i None) in omega arith))))
]

pub count_pieces : {X Y : Type 0} (p : Y → Bool) (f : X → List Y) (xs : List X) (i : ℕ) (x : X) → x ≡ get_or xs i x → i < length xs → count_by p (f x) ≤ count_by p (flat_map f xs)
count_pieces p f xs i x e h = omega (arith, ap (count_by p) (flat_map_more f xs i x e h), count_append p (flat_map f (take i xs)) (f x), front xs (i + 1))
  where
    front : (ys : List _) (n : ℕ) → count_by p (flat_map f (take n ys)) ≤ count_by p (flat_map f ys)
    front ys zero = omega arith
    front [] (suc n) = omega arith
    front (y ∷ ys) (suc n) = omega (arith, front ys n, count_append p (f y) (flat_map f (take n ys)), count_append p (f y) (flat_map f ys))

-- partition by partition as many pairs as row by row
pub rows_long : (part : Key → ℕ) (n : ℕ) → ((o : Key) → part o < n) → (keys : List Key) (g : ℕ → List Pair) (found : List (List Pair)) → IsFound part n keys g found → length (flat_map (λ q. q) found) ≡ length (flat_map g (range_with_len 0 (length keys)))
rows_long part n below keys g found f =
    ap length (ap (flat_map (λ q. q)) f.found_are ∙ flat_map-map (λ (q : List Pair). q) (λ p. flat_map g (dealt part p keys)) (range_with_len 0 n) ∙ sym (flat_map-flat_map g (λ p. dealt part p keys) (range_with_len 0 n)))
    ∙ all_bucketed (λ (k : ℕ). Unit {0}) (λ is. length (flat_map g is)) (λ a b. a + b) (λ xs ys gx gy. ap length (flat_map-append g xs ys) ∙ length-append (flat_map g xs) (flat_map g ys)) eqb eqb-Decides (λ k. part (get_or keys k None)) (λ x y gx gy e. swap x y) (range_with_len 0 (length keys)) (range_with_len 0 n) (Each-all _ (range_with_len 0 (length keys)) (λ k. tt)) (range_apart 0 n) (Each-all _ (range_with_len 0 (length keys)) (λ k. let b = below (get_or keys k None) in in_range 0 n (part (get_or keys k None)) (omega arith) (omega arith)))
  where
    swap : (x y : ℕ) → length (flat_map g (x ∷ y ∷ [])) ≡ length (flat_map g (y ∷ x ∷ []))
    swap x y = omega (arith, length-append (g x) (g y ++ []), length-append (g y) [], length-append (g y) (g x ++ []), length-append (g x) [])
