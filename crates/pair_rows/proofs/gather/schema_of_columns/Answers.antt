use Rattle.std.proofs.Common.{◌≡◌, ◌<◌, ◌++◌, ◌∷◌, [], ap, sym, subst, refl, ◌∙◌, take, map, length, get_or, List, rules, ◌+◌, ℕ}
use Rattle.std.specs.List.{All}
use Rattle.std.proofs.lemmas.List.{map-append, take_more}
use Rattle.std.proofs.lemmas.List.Elements.{All-more}
use Rattle.col_core.specs.Tables.{Column, header}
use Rattle.col_core.specs.Values.{Fits}
use Rattle.col_core.specs.declared.data_type.DataType.{DataType}
use Rattle.col_core.specs.declared.schema.Field.{Field}
use Rattle.pair_rows.proofs.gather.schema_of_columns.Goals as goal

headers_more : (columns : List Column) (i : ℕ) (column : Column) → i < length columns → column ≡ get_or columns i column → map header (take (i + 1) columns) ≡ map header (take i columns) ++ header column ∷ []
headers_more columns i column h e = ap (map header) (take_more columns i column h ∙ ap (λ (x : Column). take i columns ++ x ∷ []) (sym e)) ∙ map-append header (take i columns) (column ∷ [])

-- one more column, whose values fit its type
pub loop-column-preserved : goal.loop-column-preserved
loop-column-preserved c =
    let AllFit : Column → Type 0 = λ x. All (Fits x.dtype) x.values in
    let columns = c.args.columns.now in
    let i = c.loop-column.column-index in
    let item = c.column-item.result in
    let within : i < length columns = search rules in
    let one : AllFit item = subst (λ (t : DataType). All (Fits t) item.values) c.dtype.ensures.dtype c.dtype.ensures.fits in
    let field : Field = record { name = c.in_ok-new.field-0; dtype = c.dtype.result } in
    let named : field ≡ header item = rw (c.in_ok-new.ensures, c.as_str.ensures, c.name.ensures, c.dtype.ensures.dtype) refl in
    record {
      headers = c.in_ok-push.ensures.items
          ∙ ap (λ (fs : List Field). fs ++ field ∷ []) c.loop-column.invariant.headers
          ∙ ap (λ (f : Field). map header (take i columns) ++ f ∷ []) named
          ∙ sym (headers_more columns i item within c.column-item.is);
      fits = All-more AllFit columns i item within c.loop-column.invariant.fits (subst AllFit c.column-item.is one);
    }
