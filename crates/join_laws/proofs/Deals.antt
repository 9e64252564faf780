-- Probes by partition give what a loop over all build rows gives.
use Rattle.std.proofs.Common.{◌≡◌, ℕ, eqb, Bool, true, false, ◌||◌, List, [], ◌∷◌, map, filter, length, get_or, refl, sym, ap, ◌∙◌, Option, Some, None}
use Rattle.std.specs.Bool.{Decides}
use Rattle.std.specs.List.{list_any, range_with_len}
use Rattle.std.proofs.lemmas.Bool.{false≢true, eq-eqb}
use Rattle.join_laws.proofs.Locals.{at_key_map}
use Rattle.join_laws.specs.Deals.{all_places, build_row, chunk, dealt, frame_keys, inserted, is_key, key_at, keys_join, partners, positions_where, present, table_keys, table_positions}
use Rattle.col_core.specs.declared.row_place.RowPlace.{RowPlace}
use Rattle.key_parts.specs.Positions.{Position}
use Rattle.list_laws.proofs.Distinct.{any_distinct}
use Rattle.list_laws.proofs.Filters.{filter-flat_map, filter_implied, filter-map, filter-absent}
use Rattle.list_laws.proofs.Keys.{list_any-map}
use Rattle.list_laws.proofs.Maps.{flat_map_agree, made, map-flat_map, picked}

module _ {K : Type 0} (E : K → K → Bool) (dec : (a b : K) → Decides (E a b) (a ≡ b)) (part : Option K → ℕ) (frames : List (List (Option K))) where
  -- the keys of partition p that pass a test, in one frame
  in_frame : (q : Option K → Bool) (p : ℕ) → ((o : Option K) → q o ≡ true → part o ≡ p) → (f : ℕ) → map (build_row E part frames p) (map (λ e. e.1) (filter (λ e. q e.0) (chunk E part frames p f))) ≡ filter (λ x. q (key_at E part frames x)) (map (λ i. record { frame = f; row = i }) (range_with_len 0 (length (frame_keys E part frames f))))
  in_frame q p only f =
      let keys = frame_keys E part frames f in
      let ds = dealt E part frames p keys in
      let rows = range_with_len 0 (length keys) in
      let place : ℕ → RowPlace = λ i. record { frame = f; row = i } in
      let at : ℕ → Position = λ j. record { chunk = f; row = j } in
      made (λ j. (get_or keys (get_or ds j 0) None, at j)) q (build_row E part frames p) (range_with_len 0 (length ds))
      ∙ picked ds (λ i. q (get_or keys i None)) place
      ∙ ap (map place) (filter_implied (λ i. eqb (part (get_or keys i None)) p) (λ i. q (get_or keys i None)) (λ i e. eq-eqb (part (get_or keys i None)) p (only (get_or keys i None) e)) rows)
      ∙ sym (filter-map (λ x. q (key_at E part frames x)) place rows)

  -- the build rows of the keys of partition p that pass a test, in build order
  pub found : (q : Option K → Bool) (p : ℕ) → ((o : Option K) → q o ≡ true → part o ≡ p) → map (build_row E part frames p) (positions_where E part frames q p) ≡ filter (λ x. q (key_at E part frames x)) (all_places E part frames)
  found q p only =
      ap (λ es. map (build_row E part frames p) (map (λ e. e.1) es)) (filter-flat_map (λ e. q e.0) (chunk E part frames p) (range_with_len 0 (length frames)))
      ∙ ap (map (build_row E part frames p)) (map-flat_map (λ (e : Option K × Position). e.1) (λ f. filter (λ e. q e.0) (chunk E part frames p f)) (range_with_len 0 (length frames)))
      ∙ map-flat_map (build_row E part frames p) (λ f. map (λ (e : Option K × Position). e.1) (filter (λ e. q e.0) (chunk E part frames p f))) (range_with_len 0 (length frames))
      ∙ flat_map_agree _ _ (in_frame q p only) (range_with_len 0 (length frames))
      ∙ sym (filter-flat_map (λ x. q (key_at E part frames x)) (λ f. map (λ i. record { frame = f; row = i }) (range_with_len 0 (length (frame_keys E part frames f)))) (range_with_len 0 (length frames)))

  any_present : (ks : List (Option K)) (k : K) → list_any (λ s. E s k) (present ks) ≡ list_any (is_key E k) ks
  any_present [] k = refl
  any_present (None ∷ ks) k = any_present ks k
  any_present (Some j ∷ ks) k = ap (λ b. E j k || b) (any_present ks k)

  pub is_key_is : (k : K) (o : Option K) → is_key E k o ≡ true → o ≡ Some k
  is_key_is k None h = absurd (false≢true h)
  is_key_is k (Some j) h = ap (λ x. Some x) ((dec j k).0 h)

  -- a key that is not in the table has no positions
  pub no_positions : (p : ℕ) (k : K) → list_any (λ s. E s k) (table_keys E part frames p) ≡ false → table_positions E part frames p k ≡ []
  no_positions p k h = ap (map (λ e. e.1)) (filter-absent (λ e. is_key E k e.0) (inserted E part frames p) (sym (list_any-map (is_key E k) (λ (e : Option K × Position). e.0) (inserted E part frames p)) ∙ sym (any_present (map (λ e. e.0) (inserted E part frames p)) k) ∙ sym (any_distinct E dec (present (map (λ e. e.0) (inserted E part frames p))) k) ∙ h))

  nothing : {X : Type 0} (xs : List X) → filter (λ x. false) xs ≡ []
  nothing [] = refl
  nothing (x ∷ xs) = nothing xs

  positions_found : (k : K) → map (build_row E part frames (part (Some k))) (table_positions E part frames (part (Some k)) k) ≡ filter (λ x. is_key E k (key_at E part frames x)) (all_places E part frames)
  positions_found k = found (is_key E k) (part (Some k)) (λ o h. ap part (is_key_is k o h))

  -- a probe by partition finds what a loop over all build rows finds
  pub partners_are : (o : Option K) → partners E part frames o ≡ filter (λ x. keys_join E o (key_at E part frames x)) (all_places E part frames)
  partners_are None = sym (nothing (all_places E part frames))
  partners_are (Some k) =
      ap (map (build_row E part frames (part (Some k)))) (at_key_map E dec (table_positions E part frames (part (Some k))) [] (table_keys E part frames (part (Some k))) k (no_positions (part (Some k)) k))
      ∙ positions_found k
