-- The group keys and the columns of the reductions are known, in a query that names no unknown column.
use Rattle.std.proofs.Common.{◌≡◌, ◌⊎◌, ℕ, ◌<◌, Bool, true, false, zero, suc, List, [], ◌∷◌, ◌++◌, map, length, get_or, Option, Some, None, is_some, is_none, refl, sym, ap, ◌∙◌, subst, inl, inr, arith}
use Rattle.std.specs.Prelude.{nat_lt, position}
use Rattle.std.specs.List.{All, list_any, position_or_len}
use Rattle.std.proofs.lemmas.Bool.{cases_Bool, false≢true, lt-ltb}
use Rattle.list_laws.proofs.Halves.{neither}
use Rattle.list_laws.proofs.Keys.{list_any-append, list_any-map}
use Rattle.col_core.specs.Schemas.{type_named}
use Rattle.join_query.specs.declared.query.Query.{Query}
use Rattle.join_query.specs.declared.query.Side.TheVariants as sides
use Rattle.join_query.specs.declared.query.ColumnRef.{ColumnRef}
use Rattle.join_query.specs.declared.query.Reduction.{Reduction}
use Rattle.join_model.specs.ColumnRefs.{filter_columns, is_unknown, named_columns, schema_of}
use Rattle.join_model.specs.Refusals.{unknown_column}
use Rattle.join_groups.specs.Keyed.{IsKnown}

-- a list without a place of one that passes has none that passes
no_position : {X : Type 0} (p : X → Bool) (xs : List X) → position_or_len p xs < length xs ⊎ (list_any p xs ≡ false)
no_position p [] = inr refl
no_position p (x ∷ xs) = elim (cases_Bool (p x)) [
  | inl here ↦ inl (rw here (omega arith))
  | inr other ↦ elim (no_position p xs) [
    | inl less ↦ inl (rw other (omega (arith, less)))
    | inr none ↦ inr (rw (other, none) refl)
  ]
]

pub none_passes : {X : Type 0} (p : X → Bool) (xs : List X) → position p xs ≡ None → list_any p xs ≡ false
none_passes p xs h = elim (no_position p xs) [
  | inl less ↦
      let inside : nat_lt (position_or_len p xs) (length xs) ≡ true = lt-ltb _ _ less in
      let some : ◌≡◌ {A = Option ℕ} (Some (position_or_len p xs)) None = sym (rw inside refl) ∙ h in
      absurd cc
  | inr none ↦ none
]

none_of : {X : Type 0} (p : X → Bool) (xs ys : List X) → list_any p (xs ++ ys) ≡ false → (list_any p xs ≡ false) × (list_any p ys ≡ false)
none_of p xs ys h = neither (list_any p xs) (list_any p ys) (sym (list_any-append p xs ys) ∙ h)

is_there : {X : Type 0} (o : Option X) → is_none o ≡ false → is_some o ≡ true
is_there None h = absurd (false≢true (sym h))
is_there (Some x) h = refl

all_known : {X : Type 0} (q : Query) (ref : X → ColumnRef) (xs : List X) → list_any (λ x. is_unknown q (ref x)) xs ≡ false → All (λ x. IsKnown q (ref x)) xs
all_known q ref [] h k d l = absurd (omega arith)
all_known q ref (x ∷ xs) h zero d l = is_there (type_named (ref x).name (schema_of q (ref x).side)) (neither (is_unknown q (ref x)) (list_any (λ x. is_unknown q (ref x)) xs) h).0
all_known q ref (x ∷ xs) h (suc k) d l = all_known q ref xs (neither (is_unknown q (ref x)) (list_any (λ x. is_unknown q (ref x)) xs) h).1 k d (omega arith)

module _ (q : Query) (h : unknown_column q ≡ None) where
  abbrev joined : List ColumnRef
  joined = map (λ name. record { side = sides.Build; name = name }) q.build_keys ++ map (λ name. record { side = sides.Probe; name = name }) q.probe_keys ++ filter_columns q.filter

  halves : (list_any (is_unknown q) (joined ++ q.group_keys) ≡ false) × (list_any (is_unknown q) (map (λ (r : Reduction). r.column) q.reductions) ≡ false)
  halves = none_of (is_unknown q) (joined ++ q.group_keys) (map (λ (r : Reduction). r.column) q.reductions) (none_passes (is_unknown q) (named_columns q) h)

  pub groups_known : All (IsKnown q) q.group_keys
  groups_known = all_known q (λ ref. ref) q.group_keys (none_of (is_unknown q) joined q.group_keys halves.0).1

  pub reductions_known : All (λ (r : Reduction). IsKnown q r.column) q.reductions
  reductions_known = all_known q (λ (r : Reduction). r.column) q.reductions (sym (list_any-map (is_unknown q) (λ (r : Reduction). r.column) q.reductions) ∙ halves.1)

-- what holds of each item holds of one that was read
pub at_item : {X : Type 0} (P : X → Type 0) (xs ys : List X) (i : ℕ) (x : X) → All P xs → ys ≡ xs → i < length ys → x ≡ get_or ys i x → P x
at_item P xs ys i x h e l r = subst P (sym r) (subst (All P) (sym e) h i x l)
