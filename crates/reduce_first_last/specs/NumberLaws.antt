-- What goes by number is no sum.
use Rattle.std.proofs.Common.{◌≡◌, ◌≢◌, true}
use Rattle.std.proofs.lemmas.Bool.{false≢true}
use Rattle.reduce_model.specs.declared.kind.ReductionKind.{ReductionKind}
use Rattle.reduce_model.specs.declared.kind.ReductionKind.TheVariants as kinds
use Rattle.reduce_first_last.specs.Numbers.{goes_by_number}

pub not_a_sum : (k : ReductionKind) → goes_by_number k ≡ true → k ≢ kinds.Sum
not_a_sum kinds.Sum h = absurd (false≢true h)
not_a_sum kinds.Min h = absurd (false≢true h)
not_a_sum kinds.Max h = absurd (false≢true h)
not_a_sum kinds.First h = λ e. absurd (cc)
not_a_sum kinds.Last h = λ e. absurd (cc)
