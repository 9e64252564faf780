-- Lent values and what they lend.
use Rattle.std.proofs.Common.{◌≡◌, ℤ, refl, ap}
use Rattle.col_core.specs.declared.leaf.Leaf.TheVariants as leaves
use Rattle.col_core.specs.declared.leaf.LeafRef.{LeafRef}
use Rattle.col_core.specs.declared.leaf.LeafRef.TheVariants as lents
use Rattle.col_core.specs.Lent.{lent_leaf}
use Rattle.col_core.specs.Physical.{IsNumber}

-- where a number or nothing is lent, and no number, there is a null
pub no_number_lent : (Holds : ℤ → Type 0) (r : LeafRef) → IsNumber Holds (lent_leaf r) → ((z : ℤ) → r ≡ lents.Whole z → ⊥) → lent_leaf r ≡ leaves.Null
no_number_lent Holds lents.Null k n = refl
no_number_lent Holds (lents.Bool b) k n = absurd k
no_number_lent Holds (lents.Whole z) k n = absurd (n z refl)
no_number_lent Holds (lents.Bytes b) k n = absurd k

pub number_lent : (r : LeafRef) (z : ℤ) → r ≡ lents.Whole z → lent_leaf r ≡ leaves.Whole z
number_lent r z h = ap lent_leaf h
