-- The rows of the pairs are the rows of the nested loops.
use Rattle.std.proofs.Common.{◌≡◌, ℕ, ◌<◌, Bool, true, false, List, [], ◌∷◌, map, filter, flat_map, length, get_or, refl, sym, ap, ◌∙◌, arith, Option, Some, None}
use Rattle.std.specs.Bool.{Decides}
use Rattle.std.specs.List.{range_with_len}
use Rattle.std.proofs.lemmas.List.{length-map, get_or-map}
use Rattle.std.proofs.lemmas.List.Folds.{flat_map-map}
use mathlib.Core.List.{map-map}
use Rattle.join_laws.proofs.Deals.{partners_are}
use Rattle.join_laws.specs.Deals.{all_places, frame_keys, key_at, keys_join}
use Rattle.col_core.specs.declared.row_place.RowPlace.{RowPlace}
use Rattle.key_parts.specs.Positions.{Position}
use Rattle.join_laws.specs.declared.Pair.{Pair}
use Rattle.join_laws.specs.Pairs.{build_at, nested_pairs, pair_row, pairs_with, probed_pairs, with_partners}
use Rattle.list_laws.proofs.Filters.{filter-flat_map, filter-map, filter_same}
use Rattle.list_laws.proofs.Maps.{read_all, flat_map_agree, flat_map_same, get_or_map_all, map-flat_map}
use Rattle.list_laws.proofs.Ranges.{Each-range}

map_with_partners : {A B C : Type 0} (g : B → C) (keep : Bool) (lone : B) (beside : A → B) (xs : List A) → map g (with_partners keep lone beside xs) ≡ with_partners keep (g lone) (λ a. g (beside a)) xs
map_with_partners g true lone beside [] = refl
map_with_partners g false lone beside [] = refl
map_with_partners g keep lone beside (x ∷ xs) = map-map g beside (x ∷ xs)

with_partners_map : {A B C : Type 0} (f : A → B) (keep : Bool) (lone : C) (beside : B → C) (xs : List A) → with_partners keep lone (λ a. beside (f a)) xs ≡ with_partners keep lone beside (map f xs)
with_partners_map f keep lone beside [] = refl
with_partners_map f keep lone beside (x ∷ xs) = sym (map-map beside f (x ∷ xs))

module _ {K : Type 0} (E : K → K → Bool) (dec : (a b : K) → Decides (E a b) (a ≡ b)) (part : Option K → ℕ) where
  pub probed_are : (frames : List (List (Option K))) (keep : Bool) (keys : List (Option K)) → probed_pairs E part frames keep keys ≡ nested_pairs E part frames keep keys
  probed_are frames keep keys = flat_map_agree _ _ (λ i. ap (pairs_with keep i) (partners_are E dec part frames (get_or keys i None))) (range_with_len 0 (length keys))

  module _ {Row : Type 0} (none : Row) (probe : List Row) (build : List (List Row)) (alone : Row → Row) (beside : Row → Row → Row) (outer : Row → Row) (code : Row → Option K) (probe_code : Row → Option K) where
    abbrev pub coded : List (List (Option K))
    coded = map (map code) build

    abbrev pub row_at : RowPlace → Row
    row_at x = build_at none probe build alone beside outer x

    one_frame : (q : Option K → Bool) (f : ℕ) → map row_at (filter (λ x. q (key_at E part coded x)) (map (λ i. record { frame = f; row = i }) (range_with_len 0 (length (frame_keys E part coded f))))) ≡ filter (λ r. q (code r)) (get_or build f [])
    one_frame q f =
        let place : ℕ → RowPlace = λ i. record { frame = f; row = i } in
        let rows = get_or build f [] in
        let keys : frame_keys E part coded f ≡ map code rows = get_or_map_all (map code) build f [] in
        ap (map row_at) (filter-map (λ x. q (key_at E part coded x)) place (range_with_len 0 (length (frame_keys E part coded f))))
        ∙ map-map row_at place (filter (λ i. q (get_or (frame_keys E part coded f) i None)) (range_with_len 0 (length (frame_keys E part coded f))))
        ∙ ap (λ ks. map (λ i. get_or rows i none) (filter (λ i. q (get_or ks i None)) (range_with_len 0 (length ks)))) keys
        ∙ ap (λ n. map (λ i. get_or rows i none) (filter (λ i. q (get_or (map code rows) i None)) (range_with_len 0 n))) (length-map rows code)
        ∙ ap (map (λ i. get_or rows i none)) (filter_same (λ i. q (get_or (map code rows) i None)) (λ i. q (code (get_or rows i none))) (range_with_len 0 (length rows)) (Each-range _ 0 (length rows) (λ k l m. ap q (get_or-map code rows k none None (omega arith)))))
        ∙ sym (filter-map (λ r. q (code r)) (λ i. get_or rows i none) (range_with_len 0 (length rows)))
        ∙ ap (filter (λ r. q (code r))) (read_all rows none)

    -- the build rows whose key passes a test, by their places
    pub placed_rows : (q : Option K → Bool) → map row_at (filter (λ x. q (key_at E part coded x)) (all_places E part coded)) ≡ filter (λ r. q (code r)) (flat_map (λ rows. rows) build)
    placed_rows q =
        ap (map row_at) (filter-flat_map (λ x. q (key_at E part coded x)) (λ f. map (λ i. record { frame = f; row = i }) (range_with_len 0 (length (frame_keys E part coded f)))) (range_with_len 0 (length coded)))
        ∙ map-flat_map row_at (λ f. filter (λ x. q (key_at E part coded x)) (map (λ i. record { frame = f; row = i }) (range_with_len 0 (length (frame_keys E part coded f))))) (range_with_len 0 (length coded))
        ∙ flat_map_agree _ _ (one_frame q) (range_with_len 0 (length coded))
        ∙ ap (λ n. flat_map (λ f. filter (λ r. q (code r)) (get_or build f [])) (range_with_len 0 n)) (length-map build (map code))
        ∙ sym (flat_map-map (λ rows. filter (λ r. q (code r)) rows) (λ f. get_or build f []) (range_with_len 0 (length build)))
        ∙ ap (flat_map (λ rows. filter (λ r. q (code r)) rows)) (read_all build [])
        ∙ sym (filter-flat_map (λ r. q (code r)) (λ rows. rows) build)

    -- the rows of the probed pairs are those of the nested loops over rows
    pub probed_rows : (keep : Bool) → map (pair_row none probe build alone beside outer) (probed_pairs E part coded keep (map probe_code probe)) ≡ flat_map (λ p. with_partners keep (alone p) (beside p) (filter (λ b. keys_join E (probe_code p) (code b)) (flat_map (λ rows. rows) build))) probe
    probed_rows keep =
        ap (map row) (probed_are coded keep (map probe_code probe))
        ∙ map-flat_map row (λ i. pairs_with keep i (places (get_or (map probe_code probe) i None))) (range_with_len 0 (length (map probe_code probe)))
        ∙ ap (λ n. flat_map (λ i. map row (pairs_with keep i (places (get_or (map probe_code probe) i None)))) (range_with_len 0 n)) (length-map probe probe_code)
        ∙ flat_map_same _ (λ i. wanted (get_or probe i none)) (range_with_len 0 (length probe)) (Each-range _ 0 (length probe) (λ k l m. one k (omega arith)))
        ∙ sym (flat_map-map wanted (λ i. get_or probe i none) (range_with_len 0 (length probe)))
        ∙ ap (flat_map wanted) (read_all probe none)
      where
        row : Pair → Row
        row = pair_row none probe build alone beside outer

        places : Option K → List RowPlace
        places o = filter (λ x. keys_join E o (key_at E part coded x)) (all_places E part coded)

        wanted : Row → List Row
        wanted p = with_partners keep (alone p) (beside p) (filter (λ b. keys_join E (probe_code p) (code b)) (flat_map (λ rows. rows) build))

        one : (i : ℕ) → i < length probe → map row (pairs_with keep i (places (get_or (map probe_code probe) i None))) ≡ wanted (get_or probe i none)
        one i h =
            ap (λ o. map row (pairs_with keep i (places o))) (get_or-map probe_code probe i none None h)
            ∙ map_with_partners row keep (record { probe = Some i; build = None }) (λ x. record { probe = Some i; build = Some x }) (places (probe_code (get_or probe i none)))
            ∙ with_partners_map row_at keep (alone (get_or probe i none)) (beside (get_or probe i none)) (places (probe_code (get_or probe i none)))
            ∙ ap (with_partners keep (alone (get_or probe i none)) (beside (get_or probe i none))) (placed_rows (keys_join E (probe_code (get_or probe i none))))
