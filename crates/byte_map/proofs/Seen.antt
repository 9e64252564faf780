-- The entries that a map keeps, and those that contracts see.
use Rattle.std.proofs.Common.{◌≡◌, ◌+◌, ℕ, zero, suc, Bool, true, false, cond, not, ◌||◌, List, [], ◌∷◌, ◌++◌, length, map, Option, Some, None, nat_lt, refl, sym, ap, ap₂, ◌∙◌, is_some, Vec, Global, slice_get, option_map, inl, inr, arith}
use Rattle.std.specs.Prelude.{position, bytes_eq}
use Rattle.std.specs.List.{position_or_len, list_any, AllByRecursion, IsDistinct}
use Rattle.std.specs.Map.{keys_of as kept_keys}
use Rattle.std.proofs.lemmas.Bool.{cases_Bool, false≢true}
use Rattle.std.proofs.lemmas.List.{map-append}
use Rattle.std.proofs.lemmas.Slice.Eq.{bytes_eq-Decides}
use Rattle.indexmap.specs.IndexMap.{set_value_at}
use Rattle.list_laws.specs.Distinct.{NoRepeat}
use Rattle.byte_map.specs.Entries.{Entry, place, keys_of, values_of, hash_keys_of, AreDistinct}
use Rattle.byte_map.specs.Lending.{with_value}
use Rattle.byte_map.specs.declared.map.Kept.{Kept}

-- an entry as it is kept
abbrev pub Pair : Type 0 → Type 0
Pair V = Vec ℕ Global × Kept V

-- and as contracts see it
abbrev pub seen : {V : Type 0} → Pair V → Entry V
seen e = record { hash = e.1.hash; key = e.0.items; value = e.1.value }

module _ {V : Type 0} (k : List ℕ) where
  or_len : (es : List (Pair V)) → position_or_len (λ q. bytes_eq k q.items) (kept_keys es) ≡ position_or_len (bytes_eq k) (keys_of (map seen es))
  or_len [] = refl
  or_len (e ∷ es) = ap (λ n. cond (not (bytes_eq k e.0.items)) (1 + n) 0) (or_len es)

  long : (es : List (Pair V)) → length (kept_keys es) ≡ length (keys_of (map seen es))
  long [] = refl
  long (e ∷ es) = omega (arith, long es)

  -- a key stands where it is found
  pub place_is : (es : List (Pair V)) → position (λ q. bytes_eq k q.items) (kept_keys es) ≡ place k (map seen es)
  place_is es = ap₂ (λ i n. cond (nat_lt i n) (Some i) None) (or_len es) (long es)

-- what is found nowhere
pub none_of : {X : Type 0} (o : Option X) → false ≡ is_some o → o ≡ None
none_of None e = refl
none_of (Some x) e = cc

-- two different keys differ in either order
flipped : (a b : List ℕ) → bytes_eq a b ≡ false → bytes_eq b a ≡ false
flipped a b h = elim (cases_Bool (bytes_eq b a)) [
  | inl same ↦ absurd (false≢true (sym h ∙ (bytes_eq-Decides a b).1 (sym ((bytes_eq-Decides b a).0 same))))
  | inr apart ↦ apart
]

none_same : {V : Type 0} (k : List ℕ) (es : List (Pair V)) → AllByRecursion (λ q. bytes_eq k q.items ≡ false) (kept_keys es) → list_any (λ j. bytes_eq j k) (keys_of (map seen es)) ≡ false
none_same k [] h = refl
none_same k (e ∷ es) h = rw (flipped k e.0.items h.0) (none_same k es h.1)

-- keys that are kept once stand once
pub distinct_seen : {V : Type 0} (es : List (Pair V)) → IsDistinct (λ a b. bytes_eq a.items b.items) (kept_keys es) → AreDistinct (map seen es)
unfolding IsDistinct
distinct_seen [] d = tt
distinct_seen (e ∷ es) d = (none_same e.0.items es d.0, distinct_seen es d.1)

-- a new entry is seen last
pub seen_pushed : {V : Type 0} (es now : List (Pair V)) (old : List (Entry V)) (e : Pair V) (key : List ℕ)
    → now ≡ es ++ e ∷ [] → map seen es ≡ old → e.0.items ≡ key → map seen now ≡ old ++ record { hash = e.1.hash; key = key; value = e.1.value } ∷ []
seen_pushed es now old e key made was same = ap (map seen) made ∙ map-append seen es (e ∷ []) ∙ ap₂ (λ front k. front ++ record { hash = e.1.hash; key = k; value = e.1.value } ∷ []) was same

slice_get_map : {A B : Type 0} (f : A → B) (xs : List A) (i : ℕ) → slice_get (map f xs) i ≡ option_map f (slice_get xs i)
slice_get_map f [] i = refl
slice_get_map f (x ∷ xs) zero = refl
slice_get_map f (x ∷ xs) (suc i) = slice_get_map f xs i

option_map_twice : {A B C : Type 0} (g : B → C) (f : A → B) (o : Option A) → option_map g (option_map f o) ≡ option_map (λ x. g (f x)) o
option_map_twice g f None = refl
option_map_twice g f (Some x) = refl

-- what is read of the entry at i
pub field_seen : {V A : Type 0} (f : Entry V → A) (es : List (Pair V)) (i : ℕ) → slice_get (map f (map seen es)) i ≡ option_map (λ e. f (seen e)) (slice_get es i)
field_seen f es i = slice_get_map f (map seen es) i ∙ ap (option_map f) (slice_get_map seen es i) ∙ option_map_twice f seen (slice_get es i)

kept_twice : {V : Type 0} (es : List (Pair V)) → values_of (map seen es) ≡ map (λ k. k.value) (map (λ e. e.1) es)
kept_twice [] = refl
kept_twice (e ∷ es) = ap (λ vs. e.1.value ∷ vs) (kept_twice es)

-- the value at i
pub value_seen : {V : Type 0} (es : List (Pair V)) (i : ℕ) → slice_get (values_of (map seen es)) i ≡ option_map (λ k. k.value) (slice_get (map (λ e. e.1) es) i)
value_seen es i = ap (λ vs. slice_get vs i) (kept_twice es) ∙ slice_get_map (λ k. k.value) (map (λ e. e.1) es) i

pub length-seen : {V : Type 0} (es : List (Pair V)) → length (map seen es) ≡ length es
length-seen [] = refl
length-seen (e ∷ es) = ap suc (length-seen es)

pub length-set_value : {K X : Type 0} (es : List (K × X)) (i : ℕ) (w : X) → length (set_value_at es i w) ≡ length es
length-set_value [] i w = refl
length-set_value (e ∷ es) zero w = refl
length-set_value (e ∷ es) (suc i) w = ap suc (length-set_value es i w)

some_same : {X : Type 0} {x y : X} → Some x ≡ Some y → x ≡ y
some_same e = cc

-- an entry whose value is written keeps its hash
pub seen_written : {V : Type 0} (es : List (Pair V)) (i : ℕ) (k : Kept V) (w : V) → slice_get (map (λ e. e.1) es) i ≡ Some k
    → map seen (set_value_at es i (record { hash = k.hash; value = w })) ≡ with_value (map seen es) i w
seen_written {V} [] i k w at = refl
seen_written {V} (e ∷ es) zero k w at = ap (λ (j : Kept V). record { hash = j.hash; key = e.0.items; value = w } ∷ map seen es) (sym (some_same at))
seen_written {V} (e ∷ es) (suc i) k w at = ap (λ rest. seen e ∷ rest) (seen_written es i k w at)

-- hashes and keys, entry by entry
pub hash_keys_seen : {V : Type 0} (es : List (Pair V)) → map (λ e. (e.1.hash, e.0.items)) es ≡ hash_keys_of (map seen es)
hash_keys_seen [] = refl
hash_keys_seen (e ∷ es) = ap (λ rest. (e.1.hash, e.0.items) ∷ rest) (hash_keys_seen es)
