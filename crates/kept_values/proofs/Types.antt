-- The types whose values are kept in one way.
use Rattle.std.proofs.Common.{◌≡◌, ◌↔◌, ℤ, true, refl, sym, subst, arith}
use Rattle.col_core.specs.declared.leaf.Leaf.{Leaf}
use Rattle.col_core.specs.declared.leaf.Leaf.TheVariants as leaves
use Rattle.std.proofs.lemmas.Str.{is_utf8-from_IsUtf8}
use Rattle.col_core.specs.declared.data_type.PhysicalType.{PhysicalType}
use Rattle.col_core.specs.declared.data_type.PhysicalType.TheVariants as kept
use Rattle.col_core.specs.declared.data_type.DataType.{DataType}
use Rattle.col_core.specs.Physical.{physical_of, physical_eq, IsKept, IsNumber, IsTruth, HasBytes}
use Rattle.col_core.specs.Values.{Fits, is_text}
use Rattle.col_core.proofs.Leaves.{fits_kept, kept_fits}
use Rattle.kept_values.specs.Kept.{is_kept_as}

physical_eq_same : (p q : PhysicalType) → physical_eq p q ≡ true → p ≡ q
physical_eq_same p q h = grind arith

pub kept_as_same : (p : PhysicalType) (t : DataType) → is_kept_as p t ≡ true → physical_of t ≡ p
kept_as_same p t h = physical_eq_same (physical_of t) p h

-- a value of a type that is kept so can be kept so
pub fits_kept_as : (p : PhysicalType) (t : DataType) (v : Leaf) → is_kept_as p t ≡ true → Fits t v → IsKept p v
fits_kept_as p t v h f = subst (λ (q : PhysicalType). IsKept q v) (kept_as_same p t h) (fits_kept t v f)

-- a number or a null that can be kept so is a value of each type that is kept so
pub number_fits : (p : PhysicalType) (Holds : ℤ → Type 0) (t : DataType) (v : Leaf) → ((v : Leaf) → IsKept p v ↔ IsNumber Holds v) → is_kept_as p t ≡ true → IsNumber Holds v → Fits t v
number_fits p Holds t leaves.Null law h k = tt
number_fits p Holds t (leaves.Bool b) law h k = absurd k
number_fits p Holds t (leaves.Whole z) law h k = kept_fits t (leaves.Whole z) (subst (λ (q : PhysicalType). IsKept q (leaves.Whole z)) (sym (kept_as_same p t h)) ((law (leaves.Whole z)).1 k)) refl
number_fits p Holds t (leaves.Bytes b) law h k = absurd k

pub truth_fits : (t : DataType) (v : Leaf) → is_kept_as kept.Boolean t ≡ true → IsTruth v → Fits t v
truth_fits t v h k = grind arith

pub bytes_fit : (t : DataType) (v : Leaf) → is_kept_as kept.Bytes t ≡ true → is_text t v ≡ true → HasBytes v → Fits t v
bytes_fit t v h x k = kept_fits t v (subst (λ (q : PhysicalType). IsKept q v) (sym (kept_as_same kept.Bytes t h)) k) x

pub fits_text : (t : DataType) (v : Leaf) → Fits t v → is_text t v ≡ true
fits_text t v h = grind (arith, is_utf8-from_IsUtf8)
