-- How long the joined list of a generated input is.
use Rattle.std.proofs.Common.{◌≡◌, ℕ, zero, suc, ◌+◌, ◌-◌, ◌*◌, ◌/◌, ◌%◌, ◌<◌, ◌≤◌, min, ℤ, pos, Bool, true, false, not, ◌&&◌, cond, List, [], ◌∷◌, ◌++◌, map, filter, flat_map, length, refl, sym, ap, ◌∙◌, subst, inl, inr, append-nil, arith}
use Rattle.std.specs.List.{list_any, range_with_len}
use Rattle.std.specs.Ordering.{int_eq}
use Rattle.std.proofs.Math.Nat.{mod-add-div}
use Rattle.std.proofs.lemmas.Bool.{cases_Bool}
use Rattle.std.proofs.lemmas.Bool.Decides.{Decides-int_eq}
use Rattle.std.proofs.lemmas.List.{length-append, length-map}
use Rattle.std.proofs.lemmas.List.FromFn.{length-map-range_with_len, length-range_with_len}
use Rattle.std.proofs.lemmas.List.Sums.{length-filter, count_by-le-length}
use Rattle.list_laws.proofs.Filters.{filter-map}
use Rattle.list_laws.proofs.Halves.{both}
use Rattle.col_core.specs.declared.schema.Field.{Field}
use Rattle.col_core.specs.Tables.{Row, Table}
use Rattle.join_model.specs.Joined.{rows_of, rows_join, with_partners, rows_of_probe, is_outer, nulls, joined_rows}
use Rattle.join_generator.specs.Generated.{number_row, build_row, build_table, probe_amount, probe_row, probe_table, drawn, generated_query}

-- in a run of numbers at most two have one half
halves : (t : ℕ → Bool) (m : ℕ) → ((i : ℕ) → t i ≡ true → i / 2 ≡ m) → (a k : ℕ) → length (filter t (range_with_len a k)) ≤ min 2 (2 * m + 2 - a)
halves t m h a zero = omega arith
halves t m h a (suc k) =
    let rest = halves t m h (a + 1) k in
    elim (cases_Bool (t a)) [
      | inl here ↦ let half = h a here in let split = mod-add-div a 2 in rw here (omega (arith, half, split, rest))
      | inr other ↦ rw other (omega (arith, rest))
    ]

-- a row with a number joins the build rows whose id is that number
joins_id : (m i : ℕ) (z : ℤ) → rows_join generated_query (number_row (pos m) z) (build_row i) ≡ true → i / 2 ≡ m
joins_id m i z h =
    let same : int_eq (pos m) (pos (i / 2)) ≡ true = (both (int_eq (pos m) (pos (i / 2))) true (both (int_eq (pos m) (pos (i / 2)) && true) true h).0).0 in
    let e : pos m ≡ pos (i / 2) = (Decides-int_eq (pos m) (pos (i / 2))).0 same in
    let half : m ≡ i / 2 = cc in
    sym half

few_partners : (m n : ℕ) (z : ℤ) → length (filter (rows_join generated_query (number_row (pos m) z)) (map build_row (range_with_len 0 n))) ≤ 2
few_partners m n z =
    let t : ℕ → Bool = λ i. rows_join generated_query (number_row (pos m) z) (build_row i) in
    let two = halves t m (λ i h. joins_id m i z h) 0 n in
    rw (filter-map (rows_join generated_query (number_row (pos m) z)) build_row (range_with_len 0 n), length-map (filter t (range_with_len 0 n)) build_row) (omega (arith, two))

-- a kept probe row with at most two partners gives at most two rows
few_rows : (schema : List Field) (p : Row) (partners : List Row) → length partners ≤ 2 → length (with_partners true schema p partners) ≤ 2
few_rows schema p [] h = omega arith
few_rows schema p (b ∷ bs) h = rw (length-map (b ∷ bs) (λ (partner : Row). p ++ partner)) h

-- lists of at most two items each
few_each : {X Y : Type 0} (f : X → List Y) (g : ℕ → X) → ((j : ℕ) → length (f (g j)) ≤ 2) → (js : List ℕ) → length (flat_map f (map g js)) ≤ 2 * length js
few_each f g h [] = omega arith
few_each f g h (j ∷ js) = rw (length-append (f (g j)) (flat_map f (map g js))) (omega (arith, h j, few_each f g h js))

filtered_short : {X : Type 0} (p : X → Bool) (xs : List X) → length (filter p xs) ≤ length xs
filtered_short p xs = rw (length-filter p xs) (count_by-le-length p xs)

probe_rows_few : (n j : ℕ) → length (rows_of_probe generated_query (build_table n).rows (probe_row n j)) ≤ 2
probe_rows_few n j = few_rows generated_query.build_schema (probe_row n j) (filter (rows_join generated_query (probe_row n j)) (build_table n).rows) (few_partners (drawn (n + 2 * j) % n) n (probe_amount n j))

-- at most two rows for each probe row, and at last at most the build rows
pub joined_few : (n : ℕ) → length (joined_rows generated_query (build_table n).rows (probe_table n).rows) ≤ 9 * n
joined_few n =
    let b : List Row = (build_table n).rows in
    let p : List Row = (probe_table n).rows in
    let pairs : length (flat_map (rows_of_probe generated_query b) p) ≤ 2 * length (range_with_len 0 (4 * n)) = few_each (rows_of_probe generated_query b) (probe_row n) (probe_rows_few n) (range_with_len 0 (4 * n)) in
    let outer : List Row = filter (is_outer generated_query p) b in
    let few : length outer ≤ length b = filtered_short (is_outer generated_query p) b in
    let beside : Row → Row = λ row. nulls generated_query.probe_schema ++ row in
    rw (length-append (flat_map (rows_of_probe generated_query b) p) (map beside outer), length-map outer beside)
    (omega (arith, pairs, few, length-range_with_len 0 (4 * n), length-map-range_with_len build_row 0 n))
