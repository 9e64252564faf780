-- Values of a column in the type that keeps their sum.
use Rattle.std.proofs.Common.{◌≡◌, ℤ, true, false, List, All, ◌↔◌, sym, ap, subst, ◌∙◌, arith}
use Rattle.std.proofs.lemmas.List.Elements.{All-weaker}
use Rattle.col_core.specs.declared.leaf.Leaf.{Leaf}
use Rattle.col_core.specs.declared.leaf.Leaf.TheVariants as leaves
use Rattle.col_core.specs.declared.data_type.DataType.{DataType}
use Rattle.col_core.specs.declared.data_type.PhysicalType.{PhysicalType}
use Rattle.col_core.specs.Physical.{physical_of, IsNumber, IsKept}
use Rattle.col_core.specs.Values.{Fits}
use Rattle.reduce_model.specs.Folds.{has_no_sum, sum_leaf, wrap_in}
use Rattle.reduce_sum.specs.Sums.{kept_as, is_whole, wrap_as, WrapsAs}

-- sums wrap as what keeps them
pub wrap_in-kept : (t : DataType) (z : ℤ) → has_no_sum t ≡ false → is_whole (kept_as t) ≡ true → wrap_in t z ≡ wrap_as (kept_as t) z
wrap_in-kept t z s w = grind arith

-- columns of whole numbers alone have sums that are kept as whole numbers
pub is_whole-kept : (t : DataType) → is_whole (physical_of t) ≡ is_whole (kept_as t)
is_whole-kept t = grind arith

-- such a sum is a whole number
pub sum_leaf-kept : (t : DataType) (z : ℤ) → is_whole (kept_as t) ≡ true → sum_leaf t z ≡ leaves.Whole z
sum_leaf-kept t z w = grind arith

-- what keeps a sum has each value of the column
pub number_kept : (t : DataType) (v : Leaf) → is_whole (kept_as t) ≡ true → Fits t v → IsNumber (λ z. IsKept (kept_as t) (leaves.Whole z)) v
number_kept t v w h = grind arith

-- a whole number that keeps a sum fits its type
pub whole_fits : (t : DataType) (v : Leaf) → is_whole (physical_of t) ≡ true → IsKept (physical_of t) v → Fits t v
whole_fits t v w h = grind arith

-- ---- where the type of the totals keeps the sums over a column type

pub kept_wraps : (t : DataType) (k : PhysicalType) (wrap : ℤ → ℤ) → has_no_sum t ≡ false → kept_as t ≡ k → is_whole k ≡ true → ((z : ℤ) → wrap z ≡ wrap_as k z) → WrapsAs wrap t
kept_wraps t k wrap s e w law = λ z. wrap_in-kept t z s (ap is_whole e ∙ w) ∙ ap (λ (j : PhysicalType). wrap_as j z) e ∙ sym (law z)

pub kept_fits : (t : DataType) (k : PhysicalType) (fits : ℤ → Type 0) (v : Leaf) → kept_as t ≡ k → is_whole k ≡ true → ((z : ℤ) → fits z ↔ IsKept k (leaves.Whole z)) → Fits t v → IsNumber fits v
kept_fits t k fits v e w law h = number_weaker v (subst (λ (j : PhysicalType). IsNumber (λ z. IsKept j (leaves.Whole z)) v) e (number_kept t v (ap is_whole e ∙ w) h))
  where
    number_weaker : (v : Leaf) → IsNumber (λ z. IsKept k (leaves.Whole z)) v → IsNumber fits v
    number_weaker leaves.Null n = tt
    number_weaker (leaves.Whole z) n = (law z).1 n
    number_weaker (leaves.Bool b) n = n
    number_weaker (leaves.Bytes b) n = n

pub all_kept_fit : (t : DataType) (k : PhysicalType) (fits : ℤ → Type 0) (vs : List Leaf) → kept_as t ≡ k → is_whole k ≡ true → ((z : ℤ) → fits z ↔ IsKept k (leaves.Whole z)) → All (Fits t) vs → All (IsNumber fits) vs
all_kept_fit t k fits vs e w law all = All-weaker (Fits t) (IsNumber fits) (λ v h. kept_fits t k fits v e w law h) vs all

pub all_whole_fit : (t : DataType) (k : PhysicalType) (vs : List Leaf) → physical_of t ≡ k → is_whole k ≡ true → All (IsKept k) vs → All (Fits t) vs
all_whole_fit t k vs e w all = All-weaker (IsKept k) (Fits t) (λ v h. whole_fits t v (ap is_whole e ∙ w) (subst (λ (j : PhysicalType). IsKept j v) (sym e) h)) vs all
