-- The values of chunks, chunk by chunk.
use Rattle.std.proofs.Common.{◌≡◌, ℕ, zero, suc, ◌+◌, ◌-◌, ◌<◌, ◌≤◌, ◌^◌, min, not, cond, ◌||◌, List, [], ◌∷◌, ◌++◌, length, take, drop, get_or, refl, sym, ap, ◌∙◌, subst, arith}
use Rattle.std.specs.List.{All, count_by, list_any}
use Rattle.std.proofs.lemmas.List.{drop_more, append-nil, length-append, get_or_append_left, get_or-append_right}
use Rattle.std.proofs.lemmas.List.Elements.{All-append, All-get_or, All-cons, All-nil, All-map, All-weaker, All-take, All-drop}
use Rattle.std.proofs.lemmas.List.Folds.{list_any-append}
use Rattle.std.proofs.lemmas.List.Sums.{sum_by-append, count_by-le-length}
use Rattle.std.proofs.lemmas.Str.{IsUtf8-from_is_utf8}
use Rattle.col_core.specs.declared.chunk.Chunk.{Chunk}
use Rattle.col_core.specs.declared.leaf.Leaf.{Leaf}
use Rattle.col_core.specs.declared.leaf.Leaf.TheVariants as leaves
use Rattle.col_core.specs.declared.data_type.DataType.{DataType}
use Rattle.col_core.specs.Physical.{IsKept, physical_of}
use Rattle.col_core.specs.Values.{value_at, Fits, IsText, is_text, is_null}
use Rattle.col_core.specs.Tables.{chunk_leaves, chunk_physical, leaves_of, values_at, AreChunksOf, IsBuilt, IsOfKind}

leaves_step : (cs : List Chunk) (i : ℕ) (c : Chunk) → i < length cs → c ≡ get_or cs i c → leaves_of (drop i cs) ≡ chunk_leaves c ++ leaves_of (drop (i + 1) cs)
leaves_step cs i c h e = ap leaves_of (drop_more cs i c h) ∙ ap (λ x. chunk_leaves x ++ leaves_of (drop (i + 1) cs)) (sym e)

pub length_step : (cs : List Chunk) (i : ℕ) (c : Chunk) → i < length cs → c ≡ get_or cs i c → length (leaves_of (drop i cs)) ≡ length (chunk_leaves c) + length (leaves_of (drop (i + 1) cs))
length_step cs i c h e = ap length (leaves_step cs i c h e) ∙ length-append (chunk_leaves c) (leaves_of (drop (i + 1) cs))

-- a value fits a type where it can be kept as its values are, and is a text where one is wanted
pub fits_kept : (t : DataType) (v : Leaf) → Fits t v → IsKept (physical_of t) v
fits_kept t v h = grind arith

pub kept_fits : (t : DataType) (v : Leaf) → IsKept (physical_of t) v → IsText t v → Fits t v
kept_fits t v h x = grind (arith, IsUtf8-from_is_utf8)

-- where a place lies: in the chunk at hand, or past it
pub leaf_here : (cs : List Chunk) (i : ℕ) (c : Chunk) (r : ℕ) → i < length cs → c ≡ get_or cs i c → r < length (chunk_leaves c) → value_at (leaves_of (drop i cs)) r ≡ value_at (chunk_leaves c) r
leaf_here cs i c r h e k = ap (λ xs. value_at xs r) (leaves_step cs i c h e) ∙ get_or_append_left (chunk_leaves c) (leaves_of (drop (i + 1) cs)) leaves.Null r k

pub leaf_past : (cs : List Chunk) (i : ℕ) (c : Chunk) (r : ℕ) → i < length cs → c ≡ get_or cs i c → length (chunk_leaves c) ≤ r → value_at (leaves_of (drop i cs)) r ≡ value_at (leaves_of (drop (i + 1) cs)) (r - length (chunk_leaves c))
leaf_past cs i c r h e k = ap (λ xs. value_at xs r) (leaves_step cs i c h e) ∙ get_or-append_right (chunk_leaves c) (leaves_of (drop (i + 1) cs)) (length (chunk_leaves c)) r leaves.Null refl k

pub kind_here : (t : DataType) (cs : List Chunk) (i : ℕ) (c : Chunk) → AreChunksOf t cs → i < length cs → c ≡ get_or cs i c → IsOfKind t c
kind_here t cs i c h l e = subst (IsOfKind t) (sym e) (All-get_or (IsOfKind t) cs i c l h.kinds)

pub fits_here : (t : DataType) (cs : List Chunk) (i : ℕ) → AreChunksOf t cs → i < length (leaves_of cs) → Fits t (value_at (leaves_of cs) i)
fits_here t cs i h l = All-get_or (Fits t) (leaves_of cs) i leaves.Null l h.fits

minus_none : (n : ℕ) → n - 0 ≡ n
minus_none n = omega arith

-- the values in a range, those of the chunk at hand first
joined : (xs ys : List Leaf) (skip rest skipped count : ℕ) → skipped ≡ min skip (length xs) → count ≡ min rest (length xs - skipped)
    → take rest (drop skip (xs ++ ys)) ≡ take count (drop skipped xs) ++ take (rest - count) (drop (skip - skipped) ys)
joined [] ys skip rest skipped count s n =
    let none : skipped ≡ 0 = omega arith in
    let few : count ≡ 0 = omega arith in
    rw (none, few, minus_none, minus_none) refl
joined (x ∷ xs) ys (suc skip) rest skipped count s n =
    let less : skipped ≡ suc (skipped - 1) = omega arith in
    let on = joined xs ys skip rest (skipped - 1) count (omega arith) (omega arith) in
    let same : skip - (skipped - 1) ≡ suc skip - skipped = omega arith in
    rw less (on ∙ ap (λ k. take count (drop (skipped - 1) xs) ++ take (rest - count) (drop k ys)) (same ∙ ap (λ k. suc skip - k) less))
joined (x ∷ xs) ys zero zero skipped count s n =
    let few : count ≡ 0 = omega arith in
    rw few refl
joined (x ∷ xs) ys zero (suc rest) skipped count s n =
    let none : skipped ≡ 0 = omega arith in
    let less : count ≡ suc (count - 1) = omega arith in
    let on = joined xs ys 0 rest 0 (count - 1) (omega arith) (omega arith) in
    let same : rest - (count - 1) ≡ suc rest - count = omega arith in
    rw (none, less) (ap (λ vs. x ∷ vs) (on ∙ ap (λ k. take (count - 1) xs ++ take k (drop 0 ys)) (same ∙ ap (λ k. suc rest - k) less)))

pub joined_more : (cs : List Chunk) (i : ℕ) (c : Chunk) (skip rest skipped count : ℕ) → i < length cs → c ≡ get_or cs i c → skipped ≡ min skip (length (chunk_leaves c)) → count ≡ min rest (length (chunk_leaves c) - skipped)
    → take rest (drop skip (leaves_of (drop i cs))) ≡ take count (drop skipped (chunk_leaves c)) ++ take (rest - count) (drop (skip - skipped) (leaves_of (drop (i + 1) cs)))
joined_more cs i c skip rest skipped count h e s n = ap (λ vs. take rest (drop skip vs)) (leaves_step cs i c h e) ∙ joined (chunk_leaves c) (leaves_of (drop (i + 1) cs)) skip rest skipped count s n

-- columns of one chunk
pub one_chunk : (t : DataType) (c : Chunk) → IsOfKind t c → All (Fits t) (chunk_leaves c) → length (chunk_leaves c) < 2 ^ 64 → AreChunksOf t (c ∷ [])
one_chunk t c kind fits small = record {
  kinds = All-cons (IsOfKind t) c [] kind (All-nil (IsOfKind t));
  fits = subst (All (Fits t)) (sym (append-nil (chunk_leaves c))) fits;
  small = subst (λ (xs : List Leaf). length xs < 2 ^ 64) (sym (append-nil (chunk_leaves c))) small;
}

pub leaves_of_one : (c : Chunk) → leaves_of (c ∷ []) ≡ chunk_leaves c
leaves_of_one c = append-nil (chunk_leaves c)

-- values at places of a column fit where its values do
pub fits_taken : (t : DataType) (values : List Leaf) (places : List ℕ) → All (Fits t) values → All (λ i. i < length values) places → All (Fits t) (values_at values places)
fits_taken t values places all inside = All-map (Fits t) (value_at values) places (All-weaker (λ (i : ℕ). i < length values) (λ (i : ℕ). Fits t (value_at values i)) (λ i h. All-get_or (Fits t) values i leaves.Null h all) places inside)

pub fits_in_range : (t : DataType) (values : List Leaf) (start len : ℕ) → All (Fits t) values → All (Fits t) (take len (drop start values))
fits_in_range t values start len all = All-take (Fits t) len (drop start values) (All-drop (Fits t) start values all)

-- a column that grows by values
pub built_more : (t : DataType) (c d : Chunk) (vs : List Leaf) → IsBuilt t c → chunk_physical d ≡ chunk_physical c → chunk_leaves d ≡ chunk_leaves c ++ vs → All (Fits t) vs → IsBuilt t d
built_more t c d vs h s e all = record {
  kind = h.kind ∙ sym s;
  fits = subst (All (Fits t)) (sym e) (All-append (Fits t) (chunk_leaves c) vs h.fits all);
}

-- a column that grows by a value
pub built_push : (t : DataType) (c d : Chunk) (v : Leaf) → IsBuilt t c → chunk_physical d ≡ chunk_physical c → chunk_leaves d ≡ chunk_leaves c ++ v ∷ [] → Fits t v → IsBuilt t d
built_push t c d v h s e x = built_more t c d (v ∷ []) h s e (All-cons (Fits t) v [] x (All-nil (Fits t)))

-- from a chunk on, one chunk further
pub null_step : (cs : List Chunk) (i : ℕ) (c : Chunk) → i < length cs → c ≡ get_or cs i c → count_by is_null (leaves_of (drop i cs)) ≡ count_by is_null (chunk_leaves c) + count_by is_null (leaves_of (drop (i + 1) cs))
null_step cs i c h e = ap (count_by is_null) (leaves_step cs i c h e) ∙ sum_by-append (λ v. cond (is_null v) 1 0) (chunk_leaves c) (leaves_of (drop (i + 1) cs))

pub null_small : (t : DataType) (cs : List Chunk) → AreChunksOf t cs → count_by is_null (leaves_of cs) < 2 ^ 64
null_small t cs h = omega (arith, count_by-le-length is_null (leaves_of cs), h.small)

pub bad_step : (t : DataType) (cs : List Chunk) (i : ℕ) (c : Chunk) → i < length cs → c ≡ get_or cs i c
    → list_any (λ v. not (is_text t v)) (leaves_of (drop i cs)) ≡ (list_any (λ v. not (is_text t v)) (chunk_leaves c) || list_any (λ v. not (is_text t v)) (leaves_of (drop (i + 1) cs)))
bad_step t cs i c h e = ap (list_any (λ v. not (is_text t v))) (leaves_step cs i c h e) ∙ list_any-append (λ v. not (is_text t v)) (chunk_leaves c) (leaves_of (drop (i + 1) cs))

-- all of a list as a range of it
pub whole_range : (xs : List Leaf) (n : ℕ) → n ≡ length xs → take n (drop 0 xs) ≡ xs
whole_range xs n e = rw e (whole xs)
  where
    whole : (ys : List Leaf) → take (length ys) (drop 0 ys) ≡ ys
    whole [] = refl
    whole (y ∷ ys) = ap (λ vs. y ∷ vs) (whole ys)

pub ruleset steps = (length_step, leaf_here, leaf_past, kind_here, fits_here)

pub ruleset joins = (joined_more)

pub ruleset ones = (one_chunk, leaves_of_one, fits_taken)

pub ruleset grows = (fits_kept, built_push, built_more)

pub ruleset runs = (leaves_of_one, fits_in_range, whole_range)

pub ruleset looks = (All-get_or)

pub ruleset tallies = (null_step, null_small)

pub ruleset bad = (bad_step)
