-- Fronts of the rows of a partition, and the pairs of the first partitions.
use Rattle.std.proofs.Common.{◌≡◌, ℕ, zero, suc, ◌+◌, ◌-◌, ◌<◌, ◌≤◌, Bool, true, false, ◌||◌, cond, List, [], ◌∷◌, ◌++◌, map, filter, flat_map, length, get_or, take, drop, refl, sym, ap, ap₂, ◌∙◌, subst, inl, inr, append-nil, append_assoc, arith, Option, Some, None}
use Rattle.std.specs.List.{list_any, range_with_len, All}
use Rattle.std.proofs.lemmas.List.{length-append, length-map, take_all}
use Rattle.std.proofs.lemmas.List.Folds.{flat_map-map}
use Rattle.std.proofs.lemmas.List.FromFn.{map-range_with_len_more}
use Rattle.std.proofs.lemmas.List.Concat.{flat_map-append}
use Rattle.chunked_idx_table.specs.Probes.{joins_any, keys_at, marked_more}
use Rattle.chunked_idx_table.specs.Tables.{ProbeTable}
use Rattle.hash_keys.specs.Keys.{Key}
use Rattle.join_laws.proofs.Probes.{marked_none, marked_same}
use Rattle.join_laws.specs.declared.Pair.{Pair}
use Rattle.join_laws.specs.Partitions.{no_table}
use Rattle.col_core.specs.declared.row_place.RowPlace.{RowPlace}
use Rattle.key_parts.specs.Positions.{Position}
use Rattle.key_parts.specs.declared.hash.PlRandomState.{PlRandomState}
use Rattle.list_laws.proofs.Lists.{range_more}

pub front_none : (keys : List Key) (rows : List ℕ) (t : ProbeTable) → t ≡ marked_more (joins_any (keys_at keys (take 0 rows))) t
front_none keys rows t = sym (marked_none (joins_any []) t (λ k. refl))

pub front_whole : (keys : List Key) (rows : List ℕ) (t : ProbeTable) → marked_more (joins_any (keys_at keys rows)) t ≡ marked_more (joins_any (keys_at keys (take (length rows) rows))) t
front_whole keys rows t = ap (λ rs. marked_more (joins_any (keys_at keys rs)) t) (sym (take_all (length rows) rows (omega arith)))

-- the lists of the first numbers are a front of those of more
pub made_front : {X : Type 0} (f : ℕ → List X) (p n : ℕ) → p < n → (rest : List X) × (flat_map f (range_with_len 0 n) ≡ flat_map f (range_with_len 0 p) ++ (f p ++ rest))
made_front f p n h = let r = go 0 p n h in (r.0, r.1 ∙ ap (λ k. flat_map f (range_with_len 0 p) ++ (f k ++ r.0)) (let e : 0 + p ≡ p = omega arith in e))
  where
    go : (a p n : ℕ) → p < n → (rest : List _) × (flat_map f (range_with_len a n) ≡ flat_map f (range_with_len a p) ++ (f (a + p) ++ rest))
    go a p zero h = absurd (omega arith)
    go a zero (suc n) h = (flat_map f (range_with_len (a + 1) n), ap (λ k. f k ++ flat_map f (range_with_len (a + 1) n)) (let e : a ≡ a + 0 = omega arith in e))
    go a (suc p) (suc n) h =
        let r = go (a + 1) p n (omega arith) in
        (r.0, ap (λ t. f a ++ t) r.1 ∙ sym (append_assoc (f a) (flat_map f (range_with_len (a + 1) p)) (f (a + 1 + p) ++ r.0)) ∙ ap (λ k. (f a ++ flat_map f (range_with_len (a + 1) p)) ++ (f k ++ r.0)) (let e : a + 1 + p ≡ a + suc p = omega arith in e))

-- so the pairs of the first partitions and of the next are no more than all
pub parts_front : (f : ℕ → List Pair) (p n : ℕ) → p < n → length (flat_map f (range_with_len 0 p)) + length (f p) ≤ length (flat_map (λ q. q) (map f (range_with_len 0 n)))
parts_front f p n h =
    let r = made_front f p n h in
    omega (arith, ap length r.1, length-append (flat_map f (range_with_len 0 p)) (f p ++ r.0), length-append (f p) r.0, ap length (flat_map-map (λ (q : List Pair). q) f (range_with_len 0 n)))

-- lists that were made, by their lengths
pub parts_length : {V : Type 0} (its : V → List Pair) (vs : List V) (f : ℕ → List Pair) (p : ℕ) → map its vs ≡ map f (range_with_len 0 p) → length (flat_map its vs) ≡ length (flat_map f (range_with_len 0 p))
parts_length its vs f p e = ap length (sym (flat_map-map (λ (q : List Pair). q) its vs) ∙ ap (flat_map (λ q. q)) e ∙ flat_map-map (λ (q : List Pair). q) f (range_with_len 0 p))
