-- The places of the build rows, and the rows there.
use Rattle.std.proofs.Common.{◌≡◌, ℕ, Bool, List, [], map, filter, flat_map, length, get_or, sym, ap, ◌∙◌, arith, bytes_eq}
use Rattle.std.specs.List.{range_with_len}
use Rattle.std.proofs.lemmas.List.{length-map}
use Rattle.std.proofs.lemmas.List.Folds.{flat_map-map}
use Rattle.std.proofs.lemmas.Slice.Eq.{bytes_eq-Decides}
use mathlib.Core.List.{map-map}
use Rattle.list_laws.specs.Each.{Each}
use Rattle.list_laws.proofs.Each.{Each-flat_map, Each-map}
use Rattle.list_laws.proofs.Maps.{get_or_map_all, map_agree}
use Rattle.list_laws.proofs.Ranges.{Each-range}
use Rattle.col_core.specs.declared.row_place.RowPlace.{RowPlace}
use Rattle.col_core.specs.Places.{no_table, row_of, IsPlace}
use Rattle.col_core.specs.Tables.{Row, Table}
use Rattle.hash_keys.specs.Keys.{Key}
use Rattle.join_laws.specs.Deals.{all_places, key_at}
use Rattle.join_laws.specs.Pairs.{build_at}
use Rattle.join_laws.proofs.Pairs.{placed_rows}
use Rattle.join_query.specs.declared.query.Query.{Query}
use Rattle.join_model.specs.Joined.{rows_of}
use Rattle.join_probes.specs.Keys.{build_key}
use Rattle.join_probes.specs.Probed.{build_frame_keys}

pub rows_flat : (build : List Table) → flat_map (λ rows. rows) (map (λ (t : Table). t.rows) build) ≡ rows_of build
rows_flat build = flat_map-map (λ (rows : List Row). rows) (λ (t : Table). t.rows) build

-- the keys of the frames are those of their rows
pub keys_flat : (q : Query) (build : List Table) → map (map (build_key q)) (map (λ (t : Table). t.rows) build) ≡ build_frame_keys q build
keys_flat q build = map-map (map (build_key q)) (λ (t : Table). t.rows) build

-- the row at a place
pub row_at_place : (build : List Table) (x : RowPlace) → row_of build x ≡ get_or (get_or (map (λ (t : Table). t.rows) build) x.frame []) x.row []
row_at_place build x = ap (λ (rows : List Row). get_or rows x.row []) (sym (get_or_map_all (λ (t : Table). t.rows) build x.frame no_table))

frame_long : (q : Query) (build : List Table) (f : ℕ) → length (get_or (build_frame_keys q build) f []) ≡ length (get_or build f no_table).rows
frame_long q build f = ap length (get_or_map_all (λ (t : Table). map (build_key q) t.rows) build f no_table) ∙ length-map (get_or build f no_table).rows (build_key q)

-- each place of the frames' keys is one of the frames
pub places_inside : (q : Query) (part : Key → ℕ) (build : List Table) → Each (IsPlace build) (all_places bytes_eq part (build_frame_keys q build))
places_inside q part build =
    Each-flat_map (IsPlace build) (λ f. map (λ i. record { frame = f; row = i }) (range_with_len 0 (length (get_or (build_frame_keys q build) f [])))) (range_with_len 0 (length (build_frame_keys q build)))
    (Each-range _ 0 (length (build_frame_keys q build)) (λ f fl fm.
    Each-map (IsPlace build) (λ i. record { frame = f; row = i }) (range_with_len 0 (length (get_or (build_frame_keys q build) f [])))
    (Each-range _ 0 (length (get_or (build_frame_keys q build) f [])) (λ i l m. record {
      frame = omega (arith, fm, length-map build (λ (t : Table). map (build_key q) t.rows));
      row = omega (arith, m, frame_long q build f);
    }))))

-- the build rows whose key passes a test, by their places
pub rows_placed : (q : Query) (part : Key → ℕ) (build : List Table) (test : Key → Bool)
    → map (row_of build) (filter (λ x. test (key_at bytes_eq part (build_frame_keys q build) x)) (all_places bytes_eq part (build_frame_keys q build))) ≡ filter (λ b. test (build_key q b)) (rows_of build)
rows_placed q part build test =
    map_agree (row_of build) (build_at [] [] (map (λ (t : Table). t.rows) build) (λ (r : Row). r) (λ (r s : Row). r) (λ (r : Row). r)) (row_at_place build) (filter (λ x. test (key_at bytes_eq part (build_frame_keys q build) x)) (all_places bytes_eq part (build_frame_keys q build)))
    ∙ ap (λ (keys : List (List Key)). map (build_at [] [] (map (λ (t : Table). t.rows) build) (λ (r : Row). r) (λ (r s : Row). r) (λ (r : Row). r)) (filter (λ x. test (key_at bytes_eq part keys x)) (all_places bytes_eq part keys))) (sym (keys_flat q build))
    ∙ placed_rows bytes_eq bytes_eq-Decides part [] [] (map (λ (t : Table). t.rows) build) (λ (r : Row). r) (λ (r s : Row). r) (λ (r : Row). r) (build_key q) (build_key q) test
    ∙ ap (filter (λ b. test (build_key q b))) (rows_flat build)
