-- `dtype_eq` and `schema_eq` decide equality.
use Rattle.std.proofs.Common.{◌≡◌, ℕ, Bool, true, false, List, ◌&&◌, refl, ap₂, arith}
use Rattle.std.specs.Bool.{Decides}
use Rattle.std.specs.Str.{bytes_eq}
use Rattle.std.proofs.lemmas.Bool.{false≢true}
use Rattle.std.proofs.lemmas.Slice.Eq.{bytes_eq-Decides, slice_eq-Decides}
use Rattle.std.proofs.lemmas.Bool.Decides.{nat_tests}
use Rattle.col_core.specs.declared.schema.Field.{Field}
use Rattle.col_core.specs.declared.data_type.TimeUnit.{TimeUnit}
use Rattle.col_core.specs.declared.data_type.DataType.{DataType}
use Rattle.col_core.specs.Schemas.{unit_eq, dtype_eq, field_eq, schema_eq}

unit_eq_same : (a b : TimeUnit) → unit_eq a b ≡ true → a ≡ b
unit_eq_same a b h = grind arith

unit_eq_self : (a : TimeUnit) → unit_eq a a ≡ true
unit_eq_self a = grind arith

pub dtype_eq_same : (a b : DataType) → dtype_eq a b ≡ true → a ≡ b
dtype_eq_same a b h = grind (arith, unit_eq_same)

dtype_eq_self : (a : DataType) → dtype_eq a a ≡ true
dtype_eq_self a = grind (arith, unit_eq_self, nat_tests)

pub dtype_eq-Decides : (a b : DataType) → Decides (dtype_eq a b) (a ≡ b)
dtype_eq-Decides a b = (dtype_eq_same a b, λ h. rw h (dtype_eq_self b))

pub both : (a b : Bool) → (a && b) ≡ true → (a ≡ true) × (b ≡ true)
both true b h = (refl, h)
both false b h = absurd (false≢true h)

field_eq_same : (f g : Field) → field_eq f g ≡ true → f ≡ g
field_eq_same f g h =
    let halves = both (bytes_eq f.name g.name) (dtype_eq f.dtype g.dtype) h in
    let made : List ℕ → DataType → Field = λ n t. record { name = n; dtype = t } in
    ap₂ made ((bytes_eq-Decides f.name g.name).0 halves.0) (dtype_eq_same f.dtype g.dtype halves.1)

field_eq_self : (f : Field) → field_eq f f ≡ true
field_eq_self f = rw ((bytes_eq-Decides f.name f.name).1 refl, dtype_eq_self f.dtype) refl

pub field_eq-Decides : (f g : Field) → Decides (field_eq f g) (f ≡ g)
field_eq-Decides f g = (field_eq_same f g, λ h. rw h (field_eq_self g))

pub schema_eq-Decides : (a b : List Field) → Decides (schema_eq a b) (a ≡ b)
schema_eq-Decides a b = slice_eq-Decides field_eq-Decides a b (schema_eq a b) refl
