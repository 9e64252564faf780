-- Middles of lists, and the rows and morsels of the first frames.
use Rattle.std.proofs.Common.{◌≡◌, ℕ, ◌+◌, ◌<◌, ◌^◌, false, List, [], ◌∷◌, ◌++◌, length, take, drop, get_or, sym, ap, ◌∙◌, subst, arith}
use Rattle.std.specs.List.{All}
use Rattle.std.proofs.lemmas.List.{length-append, get_or-append-add, get_or_append_left, take-append-drop}
use Rattle.std.proofs.lemmas.Grind.{flat_map-append}
use Rattle.list_laws.specs.Runs.{runs}
use Rattle.list_laws.proofs.Lists.{flat_map_more}
use Rattle.col_core.specs.Tables.{Table}
use Rattle.join_query.specs.declared.query.Query.{Query}
use Rattle.join_laws.specs.Locals.{rows_of_morsels}
use Rattle.join_model.specs.Joined.{rows_of}
use Rattle.join_model.specs.Refusals.{is_too_large}
use Rattle.join_probes.proofs.Plans.{few_rows}
use Rattle.join_engine.specs.Listed.{probe_morsels}
use Rattle.join_engine.proofs.MorselRows.{rows_cut}

-- what holds of all holds of some in the middle
pub all_middle : {X : Type 0} (P : X → Type 0) (front middle back : List X) → All P (front ++ (middle ++ back)) → All P middle
all_middle P front middle back all k d l =
    subst P (get_or-append-add front (middle ++ back) k d ∙ get_or_append_left middle back d k l) (all (length front + k) d (omega (arith, l, length-append front (middle ++ back), length-append middle back)))

-- one more frame
pub frames_more : (frames : List Table) (i : ℕ) (t : Table) → t ≡ get_or frames i t → i < length frames → rows_of (take (i + 1) frames) ≡ rows_of (take i frames) ++ t.rows
frames_more frames i t e h = flat_map_more (λ (x : Table). x.rows) frames i t e h

-- and what is left
pub frames_left : (frames : List Table) (i : ℕ) → rows_of frames ≡ rows_of (take i frames) ++ rows_of (drop i frames)
frames_left frames i = ap rows_of (sym (take-append-drop i frames)) ∙ flat_map-append (λ (t : Table). t.rows) (take i frames) (drop i frames)

-- a frame of a side that is not too large has few rows
pub frame_few : (frames : List Table) (i : ℕ) (t : Table) → t ≡ get_or frames i t → i < length frames → is_too_large frames ≡ false → length t.rows < 2 ^ 31
frame_few frames i t e h few =
    omega (arith, few_rows frames few, ap length (frames_left frames (i + 1)), length-append (rows_of (take (i + 1) frames)) (rows_of (drop (i + 1) frames)), ap length (frames_more frames i t e h), length-append (rows_of (take i frames)) t.rows)

-- the morsels of one more frame
pub morsels_more : (q : Query) (frames : List Table) (i : ℕ) (t : Table) → t ≡ get_or frames i t → i < length frames → probe_morsels q (take (i + 1) frames) ≡ probe_morsels q (take i frames) ++ runs q.plan.morsel t.rows
morsels_more q frames i t e h = flat_map_more (λ (frame : Table). runs q.plan.morsel frame.rows) frames i t e h

-- whose rows are those of the frames
pub morsels_rows : (q : Query) (frames : List Table) → 0 < q.plan.morsel → rows_of_morsels (probe_morsels q frames) ≡ rows_of frames
morsels_rows q frames some = rows_cut q.plan.morsel (λ (frame : Table). frame.rows) frames some
