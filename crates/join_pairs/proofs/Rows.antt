-- The rows whose bits are set.
use Rattle.std.proofs.Common.{◌≡◌, ℕ, ◌<◌, ◌+◌, ◌≤◌, zero, suc, cond, ◌++◌, take, drop, Bool, true, false, not, List, [], ◌∷◌, map, filter, length, Option, Some, None, is_some, refl, sym, ap, ap₂, ◌∙◌, arith, add-one, zero-add}
use Rattle.std.specs.Prelude.{slice_index_or}
use Rattle.std.specs.List.{range_with_len}
use Rattle.std.proofs.lemmas.List.{length-map, get_or-map, append-nil}
use Rattle.std.proofs.lemmas.List.Elements.{All-filter, filter-append}
use Rattle.std.proofs.Math.Seq.{take-length}
use Rattle.std.proofs.lemmas.List.FromFn.{fill_by_all}
use Rattle.std.specs.List.{All}
use Rattle.std.specs.Simd.Lanes.{zip2}
use Rattle.list_laws.proofs.Filters.{filter-map, filter_same, filter-all}
use Rattle.list_laws.proofs.Ranges.{Each-range}
use Rattle.col_core.proofs.Rows.{range_within}
use Rattle.col_core.specs.Tables.{Row, rows_at}

-- the rows at the places of the set bits are those that pass
pub rows_that_pass : (f : Row → Bool) (rows : List Row) (bits : List Bool) → bits ≡ map f rows
    → rows_at rows (filter (λ i. slice_index_or bits i false) (range_with_len 0 (length bits))) ≡ filter f rows
rows_that_pass f rows bits h =
    let at : ℕ → Row = λ i. slice_index_or rows i [] in
    let n = length rows in
    let whole : rows ≡ map at (range_with_len 0 n) = fill_by_all at rows n [] refl (λ k l. refl) in
    let long : length bits ≡ n = ap length h ∙ length-map rows f in
    let same : filter (λ i. slice_index_or bits i false) (range_with_len 0 n) ≡ filter (λ i. f (at i)) (range_with_len 0 n) =
    filter_same (λ i. slice_index_or bits i false) (λ i. f (at i)) (range_with_len 0 n) (Each-range (λ i. slice_index_or bits i false ≡ f (at i)) 0 n (λ k low high.
    ap (λ (bs : List Bool). slice_index_or bs k false) h ∙ get_or-map f rows k [] false (omega arith))) in
    ap (λ (m : ℕ). rows_at rows (filter (λ i. slice_index_or bits i false) (range_with_len 0 m))) long
    ∙ ap (map at) same
    ∙ sym (filter-map f at (range_with_len 0 n))
    ∙ ap (filter f) (sym whole)

range_more : (a n : ℕ) → range_with_len a (suc n) ≡ range_with_len a n ++ (a + n) ∷ []
range_more a zero = ap (λ (m : ℕ). m ∷ []) (omega arith)
range_more a (suc n) = ap (λ (xs : List ℕ). a ∷ xs) (range_more (a + 1) n ∙ ap (λ (m : ℕ). range_with_len (a + 1) n ++ m ∷ []) (omega arith))

filter_more : (p : ℕ → Bool) (i : ℕ) → filter p (range_with_len 0 (i + 1)) ≡ filter p (range_with_len 0 i) ++ cond (p i) (i ∷ []) []
filter_more p i =
    ap (λ (n : ℕ). filter p (range_with_len 0 n)) (add-one i)
    ∙ ap (filter p) (range_more 0 i)
    ∙ ap (λ (m : ℕ). filter p (range_with_len 0 i ++ m ∷ [])) (zero-add i)
    ∙ filter-append p (range_with_len 0 i) (i ∷ [])

-- two functions of each row
pub pairs_over : {A B C D : Type 0} (f : B → C → D) (g : A → B) (h : A → C) (xs : List A) → zip2 f (map g xs) (map h xs) ≡ map (λ x. f (g x) (h x)) xs
pairs_over f g h [] = refl
pairs_over {D = D} f g h (x ∷ xs) = ap (λ (ys : List D). f (g x) (h x) ∷ ys) (pairs_over f g h xs)

-- the places of set bits are places of rows
pub places_within : (f : Row → Bool) (rows : List Row) (bits : List Bool) → bits ≡ map f rows
    → All (λ i. i < length rows) (filter (λ i. slice_index_or bits i false) (range_with_len 0 (length bits)))
places_within f rows bits h =
    let long : length bits ≡ length rows = ap length h ∙ length-map rows f in
    All-filter (λ i. slice_index_or bits i false) (λ i. i < length rows) (range_with_len 0 (length bits)) (range_within 0 (length bits) (length rows) (omega arith))

-- all rows, where nothing is tested
pub all_rows : (rows : List Row) (n : ℕ) → n ≡ length rows → take n (drop 0 rows) ≡ filter (λ _. true) rows
all_rows rows n h = ap (λ (k : ℕ). take k rows) h ∙ take-length rows ∙ sym (filter-all (λ _. true) (λ _. refl) rows)

-- one more place of a bit
pub more_set : (p : ℕ → Bool) (i : ℕ) (items new : List ℕ) → items ≡ filter p (range_with_len 0 i) → p i ≡ true → new ≡ items ++ i ∷ [] → new ≡ filter p (range_with_len 0 (i + 1))
more_set p i items new h set pushed = pushed ∙ ap₂ (λ (xs : List ℕ) (b : Bool). xs ++ cond b (i ∷ []) []) h (sym set) ∙ sym (filter_more p i)

pub more_unset : (p : ℕ → Bool) (i : ℕ) (items : List ℕ) → items ≡ filter p (range_with_len 0 i) → p i ≡ false → items ≡ filter p (range_with_len 0 (i + 1))
more_unset p i items h unset = sym (append-nil items) ∙ ap₂ (λ (xs : List ℕ) (b : Bool). xs ++ cond b (i ∷ []) []) h (sym unset) ∙ sym (filter_more p i)
