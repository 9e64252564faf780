use Rattle.std.proofs.Common.{refl}
use Rattle.reduce_model.specs.declared.kind.ReductionKind.TheVariants as kinds
use Rattle.reduce_min_max.proofs.Kernel.{best_is_fold}
use Rattle.reduce_min_max.proofs.numeric.MaxNumericReduction.reduce_array.Goals as goal

pub returns : goal.returns
returns g c = λ t. best_is_fold kinds.Max t g.T.Number.value c.args.items.now c.max_ignore_nan_kernel.result refl c.max_ignore_nan_kernel.ensures
