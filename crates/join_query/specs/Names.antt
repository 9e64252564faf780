-- The texts by which queries and answers name sides and kinds of reductions.
use Rattle.std.specs.Prelude.{ℕ, List, codes}
use Rattle.reduce_model.specs.declared.kind.ReductionKind.{ReductionKind}
use Rattle.reduce_model.specs.declared.kind.ReductionKind.TheVariants as kinds
use Rattle.join_query.specs.declared.query.Side.{Side}
use Rattle.join_query.specs.declared.query.Side.TheVariants as sides

-- what stands before a column's name
abbrev pub side_prefix : Side → List ℕ
side_prefix sides.Probe = codes "probe."
side_prefix sides.Build = codes "build."

abbrev pub kind_name : ReductionKind → List ℕ
kind_name kinds.Sum = codes "sum"
kind_name kinds.Min = codes "min"
kind_name kinds.Max = codes "max"
kind_name kinds.First = codes "first"
kind_name kinds.Last = codes "last"
