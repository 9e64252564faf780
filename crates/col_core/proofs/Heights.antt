-- Columns that no cause keeps from making a frame.
use Rattle.std.proofs.Common.{◌≡◌, ◌==◌, ℕ, false, not, List, [], ◌∷◌, map, length, None, arith}
use Rattle.std.specs.List.{All, list_any}
use Rattle.std.proofs.lemmas.List.Elements.{All-cons, All-nil}
use Rattle.std.proofs.lemmas.Bool.Decides.{nat_tests}
use Rattle.col_core.specs.declared.schema.Field.{Field}
use Rattle.col_core.specs.Values.{Fits}
use Rattle.col_core.specs.Tables.{Column, header, values_of, AreColumnsOf}
use Rattle.col_core.specs.Refusals.{height_of, differ_in_height, frame_refusal}

-- none of the columns differs from a height, nor does one of others with the same values
one_height : (n : ℕ) (others columns : List Column) → values_of others ≡ values_of columns → list_any (λ (c : Column). not (length c.values == n)) columns ≡ false → All (λ (c : Column). length c.values ≡ n) others
one_height n [] columns e h = All-nil (λ (c : Column). length c.values ≡ n)
one_height n (o ∷ os) [] e h = cc
one_height n (o ∷ os) (c ∷ cs) e h =
    let same : o.values ≡ c.values = cc in
    let rest : values_of os ≡ values_of cs = cc in
    let here : length c.values ≡ n = grind (arith, nat_tests) in
    let after : list_any (λ (x : Column). not (length x.values == n)) cs ≡ false = grind (arith, nat_tests) in
    All-cons (λ (x : Column). length x.values ≡ n) o os (rw same here) (one_height n os cs rest after)

not_refused : (schema : List Field) (columns : List Column) → frame_refusal schema columns ≡ None → differ_in_height columns ≡ false
not_refused schema columns h = grind arith

-- named columns stand under the schema
pub accepted : (schema : List Field) (columns others : List Column) → frame_refusal schema columns ≡ None → map header others ≡ schema → values_of others ≡ values_of columns → All (λ c. All (Fits c.dtype) c.values) others → AreColumnsOf schema others (height_of columns)
accepted schema columns others none headers values fits = record {
  headers = headers;
  lengths = one_height (height_of columns) others columns values (not_refused schema columns none);
  fits = fits;
}
