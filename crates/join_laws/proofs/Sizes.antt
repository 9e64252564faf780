-- How long the lists of a partition are, and where their numbers lie.
use Rattle.std.proofs.Common.{◌≡◌, ℕ, zero, suc, ◌+◌, ◌-◌, ◌^◌, ◌<◌, ◌≤◌, eqb, Bool, true, false, not, cond, List, [], ◌∷◌, ◌++◌, map, filter, flat_map, fold, length, get_or, take, drop, refl, sym, ap, ap₂, ◌∙◌, subst, inl, inr, append-nil, arith, Option, Some, None, is_none, bytes_eq}
use Rattle.std.specs.List.{list_any, range_with_len, All}
use Rattle.std.proofs.lemmas.Bool.{cases_lt, cases_Bool}
use Rattle.std.proofs.lemmas.List.{length-append, length-map}
use Rattle.std.proofs.lemmas.List.Elements.{All-nil, All-cons, All-filter, All-from_get_or}
use Rattle.std.proofs.lemmas.List.Folds.{flat_map-map}
use Rattle.std.proofs.lemmas.List.FromFn.{get_or-map-range_with_len, length-map-range_with_len, length-range_with_len, get_or-range_with_len}
use Rattle.chunked_idx_table.specs.Tables.{KeyEntry, ProbeTable}
use Rattle.hash_keys.specs.Keys.{Key}
use Rattle.join_laws.proofs.Bounds.{length-distinct}
use Rattle.join_laws.proofs.Parts.{parts_long}
use Rattle.join_laws.specs.Deals.{chunk, frame_keys, inserted, is_key, present}
use Rattle.join_laws.specs.Partitions.{dealt, AreBelow, HasRoom, deals, no_table, table_of, tables_of}
use Rattle.col_core.specs.declared.row_place.RowPlace.{RowPlace}
use Rattle.key_parts.specs.Positions.{Position}
use Rattle.key_parts.specs.declared.hash.PlRandomState.{PlRandomState}
use Rattle.list_laws.proofs.Lists.{get_or_past}
use Rattle.list_laws.proofs.Maps.{read_all}
use Rattle.list_laws.proofs.Ranges.{Each-range, in_range}
use Rattle.list_laws.specs.Distinct.{distinct}
use Rattle.list_laws.specs.Each.{Each}

pub filter_short : {X : Type 0} (p : X → Bool) (xs : List X) → length (filter p xs) ≤ length xs
filter_short p [] = omega arith
filter_short {X} p (x ∷ xs) =
    let r = filter_short p xs in
    elim (p x) as (λ v. length (cond v (x ∷ filter p xs) (filter p xs)) ≤ suc (length xs)) [ true ↦ omega arith | false ↦ omega arith ]

pub pieces_short : {A B C : Type 0} (f : A → List B) (g : A → List C) (xs : List A) → Each (λ x. length (f x) ≤ length (g x)) xs → length (flat_map f xs) ≤ length (flat_map g xs)
pieces_short f g [] h = omega arith
pieces_short f g (x ∷ xs) h =
    let r = pieces_short f g xs h.1 in
    let a = length-append (f x) (flat_map f xs) in
    let b = length-append (g x) (flat_map g xs) in
    let e = h.0 in
    omega arith

present_short : {K : Type 0} (ks : List (Option K)) → length (present ks) + length (filter is_none ks) ≡ length ks
present_short [] = refl
present_short (None ∷ ks) = let r = present_short ks in omega arith
present_short (Some k ∷ ks) = let r = present_short ks in omega arith

null_count : (es : List (Key × Position)) → length (filter (λ e. is_none e.0) es) ≡ length (filter is_none (map (λ e. e.0) es))
null_count [] = refl
null_count ((None, x) ∷ es) = ap suc (null_count es)
null_count ((Some k, x) ∷ es) = null_count es

pub dealt_below : (part : Key → ℕ) (p : ℕ) (keys : List Key) → All (λ i. i < length keys) (dealt part p keys)
dealt_below part p keys =
    let P : ℕ → Type 0 = λ i. i < length keys in
    All-filter (λ i. eqb (part (get_or keys i None)) p) P (range_with_len 0 (length keys)) (All-from_get_or P (range_with_len 0 (length keys)) 0 (λ i h.
    let l = length-range_with_len 0 (length keys) in
    let e = get_or-range_with_len 0 (length keys) i 0 (omega arith) in
    omega arith))

pub dealt_short : (part : Key → ℕ) (p : ℕ) (keys : List Key) → length (dealt part p keys) ≤ length keys
dealt_short part p keys =
    let a = filter_short (λ i. eqb (part (get_or keys i None)) p) (range_with_len 0 (length keys)) in
    let l = length-range_with_len 0 (length keys) in
    omega arith

pub deals_below : (part : Key → ℕ) (n : ℕ) (keys : List Key) → AreBelow (length keys) (deals part n keys)
deals_below part n keys p = elim (cases_lt p n) [
  | inl less ↦
      let e : get_or (deals part n keys) p [] ≡ dealt part p keys = get_or-map-range_with_len (λ q. dealt part q keys) 0 n p p [] less (omega arith) in
      let P : List ℕ → Type 0 = λ ds. All (λ i. i < length keys) ds × (length ds ≤ length keys) in
      subst P (sym e) (dealt_below part p keys, dealt_short part p keys)
  | inr past ↦
      let e : get_or (deals part n keys) p [] ≡ [] = get_or_past (deals part n keys) p [] (omega (arith, length-map-range_with_len (λ q. dealt part q keys) 0 n)) in
      let P : List ℕ → Type 0 = λ ds. All (λ i. i < length keys) ds × (length ds ≤ length keys) in
      subst P (sym e) (All-nil (λ i. i < length keys), omega arith)
]

-- the lists of all partitions are as long as the rows
pub deals_long : (part : Key → ℕ) (n : ℕ) → ((o : Key) → part o < n) → (keys : List Key) → length (flat_map (λ l. l) (deals part n keys)) ≡ length keys
deals_long part n below keys =
    ap length (flat_map-map (λ l. l) (λ p. dealt part p keys) (range_with_len 0 n))
    ∙ parts_long (λ i. part (get_or keys i None)) n (range_with_len 0 (length keys)) (Each-range _ 0 (length keys) (λ k l m. let b = below (get_or keys k None) in in_range 0 n (part (get_or keys k None)) (omega arith) (omega arith)))
    ∙ length-range_with_len 0 (length keys)

-- no table has more keys and null rows than there are rows
pub table_room : (part : Key → ℕ) (state : PlRandomState) (frames : List (List Key)) (marked : List ℕ → Bool) (p : ℕ) → length (table_of part state frames marked p).entries + length (table_of part state frames marked p).nulls ≤ length (flat_map (λ f. f) frames)
table_room part state frames marked p =
    let es = inserted bytes_eq part frames p in
    let ks = map (λ (e : Key × Position). e.0) es in
    let a = length-map {B = KeyEntry} (distinct bytes_eq (present ks)) (λ k. record { key = k; positions = map (λ (e : Key × Position). e.1) (filter (λ e. is_key bytes_eq k e.0) es); marked = marked k }) in
    let b = length-distinct bytes_eq (present ks) in
    let c = present_short ks in
    let d = null_count es in
    let e = length-map (filter (λ (e : Key × Position). is_none e.0) es) (λ e. e.1) in
    let f = length-map es (λ (e : Key × Position). e.0) in
    let g = rows in
    omega (arith, a, b, c, d, e, f, g)
  where
    rows : length (inserted bytes_eq part frames p) ≤ length (flat_map (λ f. f) frames)
    rows =
        let a : length (flat_map (chunk bytes_eq part frames p) (range_with_len 0 (length frames))) ≤ length (flat_map (λ f. get_or frames f []) (range_with_len 0 (length frames))) = pieces_short (chunk bytes_eq part frames p) (λ f. get_or frames f []) (range_with_len 0 (length frames)) (Each-range _ 0 (length frames) (λ k l m.
        let ks = frame_keys bytes_eq part frames k in
        let n = length-map-range_with_len {X = Key × Position} (λ j. (get_or ks (get_or (dealt part p ks) j 0) None, record { chunk = k; row = j })) 0 (length (dealt part p ks)) in
        let s = dealt_short part p ks in
        omega (arith, n, s))) in
        let b : flat_map (λ f. get_or frames f []) (range_with_len 0 (length frames)) ≡ flat_map (λ f. f) frames = sym (flat_map-map (λ f. f) (λ f. get_or frames f []) (range_with_len 0 (length frames))) ∙ ap (flat_map (λ f. f)) (read_all frames []) in
        omega (arith, a, ap length b)

-- each table of some frames has room for one frame more
pub tables_room : (part : Key → ℕ) (state : PlRandomState) (n : ℕ) (frames : List (List Key)) (marked : List ℕ → Bool) (m : ℕ) → length frames < 2 ^ 31 → length (flat_map (λ f. f) frames) + m < 2 ^ 31 → (p : ℕ) → HasRoom m (get_or (tables_of part state n frames marked) p no_table)
tables_room part state n frames marked m few rows p = elim (cases_lt p n) [
  | inl less ↦
      let e : get_or (tables_of part state n frames marked) p no_table ≡ table_of part state frames marked p = get_or-map-range_with_len (table_of part state frames marked) 0 n p p no_table less (omega arith) in
      let r = table_room part state frames marked p in
      subst (λ (t : ProbeTable). HasRoom m t) (sym e) (few, omega arith)
  | inr past ↦
      let e : get_or (tables_of part state n frames marked) p no_table ≡ no_table = get_or_past (tables_of part state n frames marked) p no_table (omega (arith, length-map-range_with_len (table_of part state frames marked) 0 n)) in
      subst (λ (t : ProbeTable). HasRoom m t) (sym e) (omega arith, omega arith)
]
