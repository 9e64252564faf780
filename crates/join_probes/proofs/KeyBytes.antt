-- The keys of two rows join exactly where their tuples do.
use Rattle.std.proofs.Common.{◌≡◌, ℕ, Bool, true, false, ◌&&◌, not, cond, List, [], ◌∷◌, ◌++◌, map, Some, None, refl, sym, ap, ap₂, ◌∙◌, subst, bytes_eq}
use Rattle.std.specs.Bool.{Decides}
use Rattle.std.specs.List.{list_any}
use Rattle.std.proofs.lemmas.Bool.{false≢true}
use Rattle.std.proofs.lemmas.Bool.Decides.{same_from_decides}
use Rattle.std.proofs.lemmas.Slice.Eq.{bytes_eq-Decides}
use Rattle.col_core.specs.declared.data_type.DataType.{DataType}
use Rattle.col_core.specs.declared.schema.Field.{Field}
use Rattle.col_core.specs.Tables.{Row, FitsSchema}
use Rattle.col_core.specs.Values.{Fits, is_null}
use Rattle.row_code.specs.Spelling.{spelling, row_spelling, IsRowOf}
use Rattle.row_code.proofs.Apart.{same_rows}
use Rattle.hash_keys.specs.Keys.{Key}
use Rattle.hash_keys.specs.Rows.{key_of}
use Rattle.join_laws.specs.Deals.{keys_join}
use Rattle.join_query.specs.declared.query.Query.{Query}
use Rattle.join_model.specs.Keys.{joins, tuple, tuple_eq}
use Rattle.join_model.specs.Joined.{rows_join}
use Rattle.join_model.proofs.Decides.{tuple_eq-Decides}
use Rattle.join_model.specs.Refusals.{have_same_types}
use Rattle.join_probes.specs.Keys.{key_fields, build_key, probe_key, HasKey}
use Rattle.join_probes.proofs.Fields.{same_types, heads, tails, nil_cons}

abbrev types : List Field → List DataType
types fields = map (λ f. f.dtype) fields

-- of fields a row's bytes, and whether it fits, depend on the types alone
spelling_typed : (fs gs : List Field) (row : Row) → types fs ≡ types gs → row_spelling fs row ≡ row_spelling gs row
spelling_typed [] [] row e = refl
spelling_typed [] (g ∷ gs) row e = absurd (nil_cons e)
spelling_typed (f ∷ fs) [] row e = absurd (nil_cons (sym e))
spelling_typed (f ∷ fs) (g ∷ gs) [] e = refl
spelling_typed (f ∷ fs) (g ∷ gs) (v ∷ vs) e = ap₂ (λ (t : DataType) (bs : List ℕ). spelling t v ++ bs) (heads e) (spelling_typed fs gs vs (tails e))

fits_typed : (fs gs : List Field) (row : Row) → types fs ≡ types gs → FitsSchema fs row → FitsSchema gs row
fits_typed [] [] row e h = h
fits_typed [] (g ∷ gs) row e h = absurd (nil_cons e)
fits_typed (f ∷ fs) [] row e h = absurd (nil_cons (sym e))
fits_typed (f ∷ fs) (g ∷ gs) [] e h = absurd h
fits_typed (f ∷ fs) (g ∷ gs) (v ∷ vs) e h = (subst (λ (t : DataType). Fits t v) (heads e) h.0, fits_typed fs gs vs (tails e) h.1)

row_typed : (fs gs : List Field) (row : Row) → types fs ≡ types gs → IsRowOf fs row → IsRowOf gs row
row_typed fs gs row e h = record { fits = fits_typed fs gs row e h.fits; short = h.short }

-- the bytes of two rows of fields of the same types are equal exactly where the rows are
same_bytes : (fs gs : List Field) (p b : Row) → types fs ≡ types gs → IsRowOf fs p → IsRowOf gs b → bytes_eq (row_spelling gs b) (row_spelling fs p) ≡ tuple_eq p b
same_bytes fs gs p b e hp hb = same_from_decides (bytes_eq (row_spelling gs b) (row_spelling fs p)) (tuple_eq p b) by_bytes (tuple_eq-Decides p b)
  where
    by_bytes : Decides (bytes_eq (row_spelling gs b) (row_spelling fs p)) (p ≡ b)
    by_bytes =
        let d = bytes_eq-Decides (row_spelling gs b) (row_spelling fs p) in (
          λ h. sym (same_rows gs b p hb (row_typed fs gs p e hp) (d.0 h ∙ spelling_typed fs gs p e)),
          λ same. d.1 (ap (row_spelling gs) (sym same) ∙ sym (spelling_typed fs gs p e)),
        )

and_true : (b : Bool) → b ≡ (b && true)
and_true true = refl
and_true false = refl

and_false : (b : Bool) → false ≡ (b && false)
and_false true = refl
and_false false = refl

abbrev key_where : Bool → List ℕ → Key
key_where null bytes = cond null None (Some bytes)

-- where nulls do not join
unless_null : (P B : Bool) (k j : List ℕ) (t : Bool) → bytes_eq j k ≡ t → (t ≡ true → P ≡ B) → keys_join bytes_eq (key_where P k) (key_where B j) ≡ (t && not P)
unless_null true B k j t e h = and_false t
unless_null false true k j true e h = absurd (false≢true (h refl))
unless_null false true k j false e h = refl
unless_null false false k j t e h = e ∙ and_true t

-- the keys of two rows join exactly where the rows do as tuples
tuples_join : (null_equal : Bool) (fs gs : List Field) (p b : Row) → types fs ≡ types gs → IsRowOf fs p → IsRowOf gs b → keys_join bytes_eq (key_of null_equal fs p) (key_of null_equal gs b) ≡ joins null_equal p b
tuples_join true fs gs p b e hp hb = same_bytes fs gs p b e hp hb ∙ and_true (tuple_eq p b)
tuples_join false fs gs p b e hp hb =
    unless_null (list_any is_null p) (list_any is_null b) (row_spelling fs p) (row_spelling gs b) (tuple_eq p b) (same_bytes fs gs p b e hp hb) (λ h. ap (list_any is_null) ((tuple_eq-Decides p b).0 h))

-- the keys of a probe row and a build row join exactly where the rows join
pub keys_join_rows : (q : Query) (p b : Row) → have_same_types q.build_schema q.build_keys q.probe_schema q.probe_keys ≡ true → HasKey q.probe_schema q.probe_keys p → HasKey q.build_schema q.build_keys b
    → keys_join bytes_eq (probe_key q p) (build_key q b) ≡ rows_join q p b
keys_join_rows q p b same hp hb =
    tuples_join q.null_equal (key_fields q.probe_schema q.probe_keys) (key_fields q.build_schema q.build_keys) (tuple q.probe_schema q.probe_keys p) (tuple q.build_schema q.build_keys b) (same_types q.build_schema q.build_keys q.probe_schema q.probe_keys same) hp hb
