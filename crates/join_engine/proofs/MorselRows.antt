-- The rows of morsels, one after the other.
use Rattle.std.proofs.Common.{◌≡◌, ℕ, ◌<◌, Bool, List, [], ◌∷◌, ◌++◌, map, filter, flat_map, sym, ap, ◌∙◌}
use Rattle.std.proofs.lemmas.List.{append-nil, append_assoc}
use Rattle.std.proofs.lemmas.List.Concat.{flat_map-append}
use Rattle.std.proofs.lemmas.List.Folds.{flat_map-map}
use Rattle.list_laws.specs.Runs.{runs}
use Rattle.list_laws.proofs.Filters.{filter-flat_map}
use Rattle.list_laws.proofs.Maps.{flat_map-flat_map, flat_map_agree, map-flat_map}
use Rattle.list_laws.proofs.Runs.{runs_are}
use Rattle.join_laws.specs.Locals.{rows_of_morsels}

-- of one morsel more
pub rows_more : {R : Type 0} (ms : List (List R)) (m : List R) → rows_of_morsels (ms ++ m ∷ []) ≡ rows_of_morsels ms ++ m
rows_more {R} ms m = flat_map-append (λ (r : List R). r) ms (m ∷ []) ∙ ap (λ (rows : List R). rows_of_morsels ms ++ rows) (append-nil m)

-- what passes of each morsel is what passes of all
pub rows_passing : {R : Type 0} (p : R → Bool) (ms : List (List R)) → rows_of_morsels (map (filter p) ms) ≡ filter p (rows_of_morsels ms)
rows_passing {R} p ms = flat_map-map (λ (m : List R). m) (filter p) ms ∙ sym (filter-flat_map p (λ (m : List R). m) ms)

-- what the rows of each morsel give
pub rows_given : {R S : Type 0} (f : R → List S) (ms : List (List R)) → rows_of_morsels (map (flat_map f) ms) ≡ flat_map f (rows_of_morsels ms)
rows_given {R} {S} f ms = flat_map-map (λ (m : List S). m) (flat_map f) ms ∙ sym (flat_map-flat_map f (λ (m : List R). m) ms)

pub rows_mapped : {R S : Type 0} (f : R → S) (ms : List (List R)) → rows_of_morsels (map (map f) ms) ≡ map f (rows_of_morsels ms)
rows_mapped {R} {S} f ms = flat_map-map (λ (m : List S). m) (map f) ms ∙ sym (map-flat_map f (λ (m : List R). m) ms)

-- the rows of the runs of lists
pub rows_cut : {X R : Type 0} (m : ℕ) (f : X → List R) (xs : List X) → 0 < m → rows_of_morsels (flat_map (λ x. runs m (f x)) xs) ≡ flat_map f xs
rows_cut {X} {R} m f xs p = flat_map-flat_map (λ (r : List R). r) (λ (x : X). runs m (f x)) xs ∙ flat_map_agree _ f (λ (x : X). runs_are m (f x) p) xs

-- what is left behind the morsels so far
pub rows_left : {R : Type 0} (ms done : List (List R)) (morsel left rows : List R) → rows ≡ rows_of_morsels done ++ (morsel ++ left) → rows_of_morsels ms ++ rows ≡ (rows_of_morsels (ms ++ done) ++ morsel) ++ left
rows_left {R} ms done morsel left rows is =
    ap (λ (rs : List R). rows_of_morsels ms ++ rs) is
    ∙ sym (append_assoc (rows_of_morsels ms) (rows_of_morsels done) (morsel ++ left))
    ∙ ap (λ (rs : List R). rs ++ (morsel ++ left)) (sym (flat_map-append (λ (m : List R). m) ms done))
    ∙ sym (append_assoc (rows_of_morsels (ms ++ done)) morsel left)
