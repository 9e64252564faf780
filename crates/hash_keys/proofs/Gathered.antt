-- Keys at places, and positions by partition.
use Rattle.std.proofs.Common.{◌≡◌, ℕ, zero, suc, ◌+◌, ◌^◌, ◌<◌, ◌==◌, Bool, true, false, cond, List, [], ◌∷◌, ◌++◌, map, length, get_or, set, take, Some, Option, inl, inr, refl, sym, ap, ap₂, subst, ◌∙◌, append_assoc, arith, zero-add, add-zero}
use Rattle.std.specs.Prelude.{slice_get}
use Rattle.std.specs.List.{range_with_len}
use Rattle.std.proofs.lemmas.Bool.{cases_eq, ne_eqb}
use Rattle.hash_keys.proofs.Ranges.{range-more, range-next, eqb-same}
use Rattle.std.proofs.lemmas.List.{get_or-set_same, get_or-set_other, append-nil, get_or_default, take-append-le, map-append, length-map, length-take}
use Rattle.std.proofs.lemmas.List.Sums.{sum_by-append}
use Rattle.std.proofs.lemmas.List.FromFn.{map-range_with_len_more}
use Rattle.key_parts.specs.declared.hash.PlRandomState.{PlRandomState}
use Rattle.key_parts.specs.Hashes.{hash_of}
use Rattle.key_parts.specs.Positions.{Position}
use Rattle.col_arrays.specs.Items.{stored, item_of}
use Rattle.hash_keys.specs.Keys.{Keys, Key, key_at}
use Rattle.hash_keys.specs.Hashed.{AreHashed}
use Rattle.hash_keys.specs.Gathered.{keys_at, count_in, bumped, positions_from, numbered}

-- what is kept at a place, as contracts see it
key_found : (items : List (List ℕ × Bool)) (i : ℕ) (t : List ℕ × Bool) → Some t ≡ slice_get items i → item_of t ≡ key_at (map item_of items) i
key_found [] i t e = cc
key_found (x ∷ items) zero t e = let same : t ≡ x = cc in ap (item_of {T = List ℕ}) same
key_found (x ∷ items) (suc i) t e = key_found items i t e

hash_taken : (state : PlRandomState) (items : List (List ℕ × Bool)) (i : ℕ) (t : List ℕ × Bool) → Some t ≡ slice_get items i
    → get_or (map (hash_of state) (stored items)) i 0 ≡ hash_of state t.0
hash_taken state [] i t e = cc
hash_taken state (x ∷ items) zero t e = let same : x ≡ t = cc in ap (λ (y : List ℕ × Bool). hash_of state y.0) same
hash_taken state (x ∷ items) (suc i) t e = hash_taken state items i t e

keys_taken : (items taken : List (List ℕ × Bool)) (idxs : List ℕ) → map Some taken ≡ map (slice_get items) idxs → map item_of taken ≡ keys_at (map item_of items) idxs
keys_taken items [] [] e = refl
keys_taken items [] (i ∷ idxs) e = cc
keys_taken items (t ∷ taken) [] e = cc
keys_taken items (t ∷ taken) (i ∷ idxs) e =
    let head : Some t ≡ slice_get items i = cc in
    let tail : map Some taken ≡ map (slice_get items) idxs = cc in
    ap₂ (λ (k : Key) (ks : List Key). k ∷ ks) (key_found items i t head) (keys_taken items taken idxs tail)

hashes_taken : (state : PlRandomState) (items taken : List (List ℕ × Bool)) (idxs : List ℕ) → map Some taken ≡ map (slice_get items) idxs
    → map (λ i. get_or (map (hash_of state) (stored items)) i 0) idxs ≡ map (hash_of state) (stored taken)
hashes_taken state items [] [] e = refl
hashes_taken state items [] (i ∷ idxs) e = cc
hashes_taken state items (t ∷ taken) [] e = cc
hashes_taken state items (t ∷ taken) (i ∷ idxs) e =
    let head : Some t ≡ slice_get items i = cc in
    let tail : map Some taken ≡ map (slice_get items) idxs = cc in
    ap₂ (λ (h : ℕ) (hs : List ℕ). h ∷ hs) (hash_taken state items i t head) (hashes_taken state items taken idxs tail)

taken_long : (items taken : List (List ℕ × Bool)) (idxs : List ℕ) → map Some taken ≡ map (slice_get items) idxs → length taken ≡ length idxs
taken_long items taken idxs e = sym (length-map taken Some) ∙ ap length e ∙ length-map idxs (slice_get items)

-- the keys at places are kept as keys are
pub gathered_hashed : (state : PlRandomState) (hashes : List ℕ) (items taken : List (List ℕ × Bool)) (idxs found : List ℕ) → AreHashed state hashes items
    → map Some taken ≡ map (slice_get items) idxs → length idxs < 2 ^ 32 → found ≡ map (λ i. get_or hashes i 0) idxs → AreHashed state found taken
gathered_hashed state hashes items taken idxs found kept e few f = record {
  hashed = f ∙ ap (λ (l : List ℕ). map (λ i. get_or l i 0) idxs) kept.hashed ∙ hashes_taken state items taken idxs e;
  few = omega (arith, taken_long items taken idxs e);
}

pub gathered_keys : (keys : Keys) (state : PlRandomState) (items taken : List (List ℕ × Bool)) (idxs : List ℕ)
    → record { state = state; keys = map item_of items } ≡ keys → map Some taken ≡ map (slice_get items) idxs
    → ◌≡◌ {A = Keys} (record { state = state; keys = map item_of taken }) (record { state = keys.state; keys = keys_at keys.keys idxs })
gathered_keys keys state items taken idxs view e =
    let made : PlRandomState → List Key → Keys = λ s k. record { state = s; keys = k } in
    ap₂ made (ap (λ (k : Keys). k.state) view) (keys_taken items taken idxs e ∙ ap (λ (k : Keys). keys_at k.keys idxs) view)

-- what stood in front stays
pub kept_more : {A : Type 0} (old xs : List A) (x : A) → take (length old) xs ≡ old → take (length old) (xs ++ x ∷ []) ≡ old
kept_more old xs x e = take-append-le (length old) xs (x ∷ []) (omega (arith, ap length e, length-take (length old) xs)) ∙ e

-- a position more
pub position_more : (partition start j : ℕ) (done old new : List (Option Position)) (x : Option Position)
    → done ≡ old ++ map (λ x. Some x) (positions_from partition start j) → x ≡ Some (record { chunk = partition; row = start + j })
    → new ≡ done ++ x ∷ [] → new ≡ old ++ map (λ x. Some x) (positions_from partition start (j + 1))
position_more partition start j done old new x e f g =
    let at : ℕ → Position = λ r. record { chunk = partition; row = r } in
    let all : map (λ (y : Position). Some y) (positions_from partition start (j + 1)) ≡ map (λ (y : Position). Some y) (positions_from partition start j) ++ Some (at (start + j)) ∷ [] =
    ap (map (λ (y : Position). Some y)) (map-range_with_len_more at start j (start + j) refl) ∙ map-append (λ (y : Position). Some y) (positions_from partition start j) (at (start + j) ∷ []) in
    g ∙ ap₂ (λ (l : List (Option Position)) (y : Option Position). l ++ y ∷ []) e f
    ∙ append_assoc old (map (λ (y : Position). Some y) (positions_from partition start j)) (Some (at (start + j)) ∷ [])
    ∙ ap (λ (l : List (Option Position)). old ++ l) (sym all)

-- the positions of a row more
pub count_in-snoc : (part count : ℕ → ℕ) (p : ℕ) (rows : List ℕ) (i : ℕ) → count_in part count p (rows ++ i ∷ []) ≡ count_in part count p rows + cond (part i == p) (count i) 0
count_in-snoc part count p rows i =
    sum_by-append (λ j. cond (part j == p) (count j) 0) rows (i ∷ []) ∙ ap (λ (n : ℕ). count_in part count p rows + n) (zero-add (cond (part i == p) (count i) 0))

count_in-cons : (part count : ℕ → ℕ) (p h : ℕ) (is : List ℕ) → count_in part count p (h ∷ is) ≡ cond (part h == p) (count h) 0 + count_in part count p is
count_in-cons part count p h is =
    sum_by-append (λ j. cond (part j == p) (count j) 0) (h ∷ []) is ∙ ap (λ (n : ℕ). n + count_in part count p is) (zero-add (cond (part h == p) (count h) 0))

-- a row more, at the end
numbered-more : (part count : ℕ → ℕ) (is : List ℕ) (i : ℕ) (next : ℕ → ℕ)
    → numbered part count (is ++ i ∷ []) next ≡ numbered part count is next ++ positions_from (part i) (next (part i) + count_in part count (part i) is) (count i)
numbered-more part count [] i next =
    append-nil (positions_from (part i) (next (part i)) (count i)) ∙ ap (λ (n : ℕ). positions_from (part i) n (count i)) (sym (add-zero (next (part i))))
numbered-more part count (h ∷ is) i next =
    let block = positions_from (part h) (next (part h)) (count h) in
    let rest = numbered part count is (bumped next (part h) (count h)) in
    let same : bumped next (part h) (count h) (part i) + count_in part count (part i) is ≡ next (part i) + count_in part count (part i) (h ∷ is) =
    counted (part h == part i) (next (part i)) (count h) (count_in part count (part i) is) ∙ ap (λ (n : ℕ). next (part i) + n) (sym (count_in-cons part count (part i) h is)) in
    ap (λ (l : List Position). block ++ l) (numbered-more part count is i (bumped next (part h) (count h)))
    ∙ sym (append_assoc block rest (positions_from (part i) (bumped next (part h) (count h) (part i) + count_in part count (part i) is) (count i)))
    ∙ ap (λ (n : ℕ). (block ++ rest) ++ positions_from (part i) n (count i)) same
  where
    counted : (b : Bool) (n c t : ℕ) → cond b (n + c) n + t ≡ n + (cond b c 0 + t)
    counted true n c t = omega arith
    counted false n c t = omega arith

pub gathered_more : (part count : ℕ → ℕ) (i start : ℕ) (done old new : List (Option Position))
    → start ≡ count_in part count (part i) (range_with_len 0 i)
    → done ≡ old ++ map (λ x. Some x) (numbered part count (range_with_len 0 i) (λ _. 0))
    → new ≡ done ++ map (λ x. Some x) (positions_from (part i) start (count i))
    → new ≡ old ++ map (λ x. Some x) (numbered part count (range_with_len 0 (i + 1)) (λ _. 0))
gathered_more part count i start done old new s e f =
    let some : List Position → List (Option Position) = map (λ (y : Position). Some y) in
    let front = numbered part count (range_with_len 0 i) (λ _. 0) in
    let block = positions_from (part i) start (count i) in
    let all : numbered part count (range_with_len 0 (i + 1)) (λ _. 0) ≡ front ++ block =
    ap (λ (l : List ℕ). numbered part count l (λ _. 0)) (range-more i) ∙ numbered-more part count (range_with_len 0 i) i (λ _. 0)
    ∙ ap (λ (n : ℕ). front ++ positions_from (part i) n (count i)) (zero-add (count_in part count (part i) (range_with_len 0 i)) ∙ sym s) in
    f ∙ ap (λ (l : List (Option Position)). l ++ some block) e ∙ append_assoc old (some front) (some block)
    ∙ ap (λ (l : List (Option Position)). old ++ l) (sym (ap some all ∙ map-append (λ (y : Position). Some y) front block))

-- how many positions a partition has given, a row more
count_in-more : (part count : ℕ → ℕ) (p i : ℕ) → count_in part count p (range_with_len 0 (i + 1)) ≡ count_in part count p (range_with_len 0 i) + cond (part i == p) (count i) 0
count_in-more part count p i =
    ap (count_in part count p) (range-more i) ∙ count_in-snoc part count p (range_with_len 0 i) i

pub counts_more : (part count : ℕ → ℕ) (next : List ℕ) (i q : ℕ) → q < length next → q ≡ part i
    → ((p : ℕ) → get_or next p 0 ≡ count_in part count p (range_with_len 0 i))
    → (p : ℕ) → get_or (set next q (get_or next q 0 + count i)) p 0 ≡ count_in part count p (range_with_len 0 (i + 1))
counts_more part count next i q below e h p =
    bumped_at ∙ ap (λ (r : ℕ). get_or next p 0 + cond (r == p) (count i) 0) e ∙ ap (λ (n : ℕ). n + cond (part i == p) (count i) 0) (h p) ∙ sym (count_in-more part count p i)
  where
    bumped_at : get_or (set next q (get_or next q 0 + count i)) p 0 ≡ get_or next p 0 + cond (q == p) (count i) 0
    bumped_at = elim (cases_eq p q) [
      | inl same ↦
          let P : ℕ → Type 0 = λ r. get_or (set next q (get_or next q 0 + count i)) r 0 ≡ get_or next r 0 + cond (q == r) (count i) 0 in
          subst P (sym same) (get_or-set_same next q (get_or next q 0 + count i) 0 below ∙ ap (λ (b : Bool). get_or next q 0 + cond b (count i) 0) (sym (eqb-same q)))
      | inr other ↦
          get_or-set_other next q p (get_or next q 0 + count i) 0 other
          ∙ (let e : get_or next p 0 ≡ get_or next p 0 + 0 = omega arith in e)
          ∙ sym (ap (λ (b : Bool). get_or next p 0 + cond b (count i) 0) (ne_eqb q p (λ same. other (sym same))))
    ]

-- what a partition gives up to a row is at most what it gives in all
pub count_in_few : (part count : ℕ → ℕ) (p i n most : ℕ) → i < n → part i ≡ p → count_in part count p (range_with_len 0 n) < most
    → count_in part count p (range_with_len 0 i) + count i < most
count_in_few part count p i zero most below is few = absurd (omega arith)
count_in_few part count p i (suc n) most below is few = elim (cases_eq i n) [
  | inl same ↦
      let P : ℕ → Type 0 = λ r. part r ≡ p → count_in part count p (range_with_len 0 r) + count r < most in
      let here : P n = λ (e : part n ≡ p).
      let counted : cond (part n == p) (count n) 0 ≡ count n = ap (λ (b : Bool). cond b (count n) 0) (ap (λ (x : ℕ). x == p) e ∙ eqb-same p) in
      omega (arith, step, counted) in
      subst P (sym same) here is
  | inr other ↦ count_in_few part count p i n most (omega arith) is (omega (arith, step))
]
  where
    step : count_in part count p (range_with_len 0 (suc n)) ≡ count_in part count p (range_with_len 0 n) + cond (part n == p) (count n) 0
    step = ap (count_in part count p) (range-next n) ∙ count_in-snoc part count p (range_with_len 0 n) n

-- how many positions the partition of a row has given before it
pub start_of : (part count : ℕ → ℕ) (next : List ℕ) (i q start : ℕ) → q < length next → q ≡ part i → start ≡ get_or next q start
    → ((p : ℕ) → get_or next p 0 ≡ count_in part count p (range_with_len 0 i)) → start ≡ count_in part count (part i) (range_with_len 0 i)
start_of part count next i q start below e is h =
    is ∙ get_or_default next q start 0 below ∙ h q ∙ ap (λ (r : ℕ). count_in part count r (range_with_len 0 i)) e

pub counts_from : (part count : ℕ → ℕ) (next : List ℕ) (i q start : ℕ) → q < length next → q ≡ part i → start ≡ get_or next q start
    → ((p : ℕ) → get_or next p 0 ≡ count_in part count p (range_with_len 0 i))
    → (p : ℕ) → get_or (set next q (start + count i)) p 0 ≡ count_in part count p (range_with_len 0 (i + 1))
counts_from part count next i q start below e is h =
    let P : ℕ → Type 0 = λ n. (p : ℕ) → get_or (set next q (n + count i)) p 0 ≡ count_in part count p (range_with_len 0 (i + 1)) in
    subst P (sym (is ∙ get_or_default next q start 0 below)) (counts_more part count next i q below e h)

-- what stood in front of what stood in front stays
pub kept_on : {A : Type 0} (old mid new : List A) → take (length old) mid ≡ old → take (length mid) new ≡ mid → take (length old) new ≡ old
kept_on [] mid new e f = refl
kept_on (x ∷ old) [] new e f = cc
kept_on (x ∷ old) (y ∷ mid) [] e f = cc
kept_on (x ∷ old) (y ∷ mid) (z ∷ new) e f =
    let heads : z ≡ x = cc in
    let front : take (length old) mid ≡ old = cc in
    let back : take (length mid) new ≡ mid = cc in
    ap₂ (λ h t. h ∷ t) heads (kept_on old mid new front back)

-- what holds of keys and their state holds of the same keys
pub same_keys : (P : PlRandomState → List Key → Type 0) (s t : PlRandomState) (ks ls : List Key) → s ≡ t → ks ≡ ls → P s ks → P t ls
same_keys P s t ks ls e f h = subst (λ (k : List Key). P t k) f (subst (λ (r : PlRandomState). P r ks) e h)
