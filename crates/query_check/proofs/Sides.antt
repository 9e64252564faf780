-- The fields and the frames of a side, one after the other.
use Rattle.std.proofs.Common.{◌≡◌, ℕ, ◌+◌, ◌<◌, ◌||◌, List, ◌++◌, length, drop, get_or, sym, ap, ◌∙◌}
use Rattle.std.specs.List.{list_any}
use Rattle.std.specs.Str.{bytes_eq}
use Rattle.std.proofs.lemmas.List.{drop_more, length-append}
use Rattle.list_laws.proofs.Distinct.{has_repeat-drop}
use Rattle.col_core.specs.declared.schema.Field.{Field}
use Rattle.col_core.specs.Tables.{Table}
use Rattle.join_model.specs.Joined.{rows_of}
use Rattle.join_model.specs.Refusals.{repeats_name}

-- a field with those after it
pub repeats_from : (fields : List Field) (i : ℕ) (f : Field) → i < length fields → f ≡ get_or fields i f → repeats_name (drop i fields) ≡ (list_any (λ g. bytes_eq g.name f.name) (drop (i + 1) fields) || repeats_name (drop (i + 1) fields))
repeats_from fields i f h e = has_repeat-drop (λ (f : Field) (g : Field). bytes_eq f.name g.name) fields i f h e

-- a frame with those after it
pub rows_from_frame : (frames : List Table) (i : ℕ) (t : Table) → i < length frames → t ≡ get_or frames i t → length (rows_of (drop i frames)) ≡ length t.rows + length (rows_of (drop (i + 1) frames))
rows_from_frame frames i t h e = ap (λ (fs : List Table). length (rows_of fs)) (drop_more frames i t h) ∙ ap (λ (x : Table). length (x.rows ++ rows_of (drop (i + 1) frames))) (sym e) ∙ length-append t.rows (rows_of (drop (i + 1) frames))
