-- Columns under the names of fields.
use Rattle.std.proofs.Common.{◌≡◌, ℕ, zero, suc, true, List, [], ◌∷◌, ◌++◌, map, length, drop, slice_get, Some, refl, ap, ap₂, sym, ◌∙◌, add-one, append_assoc}
use Rattle.std.proofs.lemmas.Bool.{false≢true}
use Rattle.std.proofs.lemmas.List.{append-nil, length-append}
use Rattle.col_core.specs.declared.schema.Field.{Field}
use Rattle.col_core.specs.declared.data_type.DataType.{DataType}
use Rattle.col_core.specs.Schemas.{dtype_eq}
use Rattle.col_core.specs.Tables.{Column, header, values_of}
use Rattle.col_core.specs.Refusals.{has_types}
use Rattle.col_core.proofs.Equalities.{both, dtype_eq_same}

abbrev pub named : Column → Field → Column
named c f = record { name = f.name; dtype = c.dtype; values = c.values }

-- each column with its field's name
abbrev pub named_as : List Column → List Field → List Column
named_as [] fs = []
named_as (c ∷ cs) [] = []
named_as (c ∷ cs) (f ∷ fs) = named c f ∷ named_as cs fs

-- what stands at a place and after it
from_place : (fields : List Field) (n : ℕ) (f : Field) → slice_get fields n ≡ Some f → drop n fields ≡ f ∷ drop (suc n) fields
from_place [] n f h = cc
from_place (g ∷ fields) zero f h = cc
from_place (g ∷ fields) (suc n) f h = from_place fields n f h

-- what holds while columns are named one by one
pub record IsNamed (fields : List Field) (columns done rest : List Column) : Type 0 where
  pub so_far : done ++ named_as rest (drop (length done) fields) ≡ named_as columns fields
  pub types : has_types (drop (length done) fields) rest ≡ true

pub named_more : (fields : List Field) (columns done rest : List Column) (c : Column) (f : Field) → slice_get fields (length done) ≡ Some f
    → IsNamed fields columns done (c ∷ rest) → IsNamed fields columns (done ++ named c f ∷ []) rest
named_more fields columns done rest c f at h =
    let here = from_place fields (length done) f at in
    let more : length (done ++ named c f ∷ []) ≡ suc (length done) = length-append done (named c f ∷ []) ∙ add-one (length done) in
    record {
      so_far = rw more (append_assoc done (named c f ∷ []) (named_as rest (drop (suc (length done)) fields)) ∙ ap (λ fs. done ++ named_as (c ∷ rest) fs) (sym here) ∙ h.so_far);
      types = rw more ((both (dtype_eq f.dtype c.dtype) (has_types (drop (suc (length done)) fields) rest) (rw here at h.types)).1);
    }

headers_named : (columns : List Column) (fields : List Field) → has_types fields columns ≡ true → map header (named_as columns fields) ≡ fields
headers_named [] [] h = refl
headers_named (c ∷ cs) [] h = refl
headers_named [] (f ∷ fs) h = absurd (false≢true h)
headers_named (c ∷ cs) (f ∷ fs) h =
    let halves = both (dtype_eq f.dtype c.dtype) (has_types fs cs) h in
    let typed : DataType → Field = λ t. record { name = f.name; dtype = t } in
    ap₂ (λ g gs. g ∷ gs) (ap typed (sym (dtype_eq_same f.dtype c.dtype halves.0))) (headers_named cs fs halves.1)

values_named : (columns : List Column) (fields : List Field) → has_types fields columns ≡ true → values_of (named_as columns fields) ≡ values_of columns
values_named [] fs h = refl
values_named (c ∷ cs) [] h = absurd (false≢true h)
values_named (c ∷ cs) (f ∷ fs) h = ap (λ rest. c.values ∷ rest) (values_named cs fs (both (dtype_eq f.dtype c.dtype) (has_types fs cs) h).1)

-- when all are named
pub named_headers : (fields : List Field) (columns done : List Column) → has_types fields columns ≡ true → IsNamed fields columns done [] → map header done ≡ fields
named_headers fields columns done t h = ap (map header) (sym (append-nil done) ∙ h.so_far) ∙ headers_named columns fields t

pub named_values : (fields : List Field) (columns done : List Column) → has_types fields columns ≡ true → IsNamed fields columns done [] → values_of done ≡ values_of columns
named_values fields columns done t h = ap values_of (sym (append-nil done) ∙ h.so_far) ∙ values_named columns fields t

pub ruleset naming = (named_more, named_headers, named_values)
