-- The runs of a list, one after the other, are the list; and what is made of each run is made of all items.
use Rattle.std.proofs.Common.{◌≡◌, ℕ, zero, suc, ◌<◌, ◌≤◌, Bool, List, [], ◌∷◌, ◌++◌, map, filter, flat_map, length, take, drop, refl, sym, ap, ◌∙◌, arith, length-drop, take-append-drop}
use Rattle.std.proofs.lemmas.List.{nil_from_length}
use Rattle.std.proofs.lemmas.List.Folds.{flat_map-map}
use Rattle.list_laws.specs.Runs.{runs_from, runs, morsels_of}
use Rattle.list_laws.proofs.Maps.{flat_map-flat_map, flat_map_agree}
use Rattle.list_laws.proofs.Filters.{filter-flat_map}

runs_join : {X : Type 0} (n m : ℕ) (xs : List X) → 0 < m → length xs ≤ n → flat_map (λ r. r) (runs_from n m xs) ≡ xs
runs_join zero m xs p h = sym (nil_from_length xs (omega arith))
runs_join (suc n) m [] p h = refl
runs_join (suc n) m (x ∷ xs) p h =
    ap (λ t. take m (x ∷ xs) ++ t) (runs_join n m (drop m (x ∷ xs)) p (let l = length-drop m (x ∷ xs) in omega arith))
    ∙ take-append-drop m (x ∷ xs)

pub runs_are : {X : Type 0} (m : ℕ) (xs : List X) → 0 < m → flat_map (λ r. r) (runs m xs) ≡ xs
runs_are m xs p = runs_join (length xs) m xs p (omega arith)

pub morsels_are : {X : Type 0} (m : ℕ) (frames : List (List X)) → 0 < m → flat_map (λ r. r) (morsels_of m frames) ≡ flat_map (λ f. f) frames
morsels_are {X} m frames p = flat_map-flat_map (λ (r : List X). r) (runs m) frames ∙ flat_map_agree _ (λ f. f) (λ f. runs_are m f p) frames

-- the kept rows of all morsels
pub kept_morsels : {X Y : Type 0} (f : X → List Y) (p : Y → Bool) (ms : List (List X)) → flat_map (λ r. r) (map (λ m. filter p (flat_map f m)) ms) ≡ filter p (flat_map f (flat_map (λ m. m) ms))
kept_morsels {X} {Y} f p ms =
    flat_map-map (λ (r : List Y). r) (λ m. filter p (flat_map f m)) ms
    ∙ sym (filter-flat_map p (flat_map f) ms)
    ∙ ap (filter p) (sym (flat_map-flat_map f (λ m. m) ms))
