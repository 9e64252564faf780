use Rattle.std.proofs.Common.{refl}
use Rattle.reduce_model.specs.declared.kind.ReductionKind.TheVariants as kinds
use Rattle.reduce_min_max.proofs.Kernel.{best_is_fold}
use Rattle.reduce_min_max.proofs.numeric.MinNumericReduction.reduce_array.Goals as goal

pub returns : goal.returns
returns g c = λ t. best_is_fold kinds.Min t g.T.Number.value c.args.items.now c.min_ignore_nan_kernel.result refl c.min_ignore_nan_kernel.ensures
