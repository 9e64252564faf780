-- The bounds of a type give way to its numbers.
use Rattle.std.proofs.Common.{◌≡◌, ◌≢◌, ◌≤ℤ◌, ℤ, true, arith}
use Rattle.std.proofs.lemmas.Int.{ints}
use Rattle.std.proofs.lemmas.Bool.{false≢true}
use Rattle.reduce_model.specs.declared.kind.ReductionKind.{ReductionKind}
use Rattle.reduce_model.specs.declared.kind.ReductionKind.TheVariants as kinds
use Rattle.group_reduce.specs.Masked.{skips_nulls}
use Rattle.reduce_min_max.specs.Best.{better_whole}

pub high_gives_way : (high z : ℤ) → z ≤ℤ high → (better_whole kinds.Min high z ≡ z) × (better_whole kinds.Min z high ≡ z)
high_gives_way high z h = (grind (arith, ints), grind (arith, ints))

pub low_gives_way : (low z : ℤ) → low ≤ℤ z → (better_whole kinds.Max low z ≡ z) × (better_whole kinds.Max z low ≡ z)
low_gives_way low z h = (grind (arith, ints), grind (arith, ints))

pub not_a_sum : (k : ReductionKind) → skips_nulls k ≡ true → k ≢ kinds.Sum
not_a_sum kinds.Sum h = absurd (false≢true h)
not_a_sum kinds.Min h = λ e. absurd (cc)
not_a_sum kinds.Max h = λ e. absurd (cc)
not_a_sum kinds.First h = absurd (false≢true h)
not_a_sum kinds.Last h = absurd (false≢true h)
