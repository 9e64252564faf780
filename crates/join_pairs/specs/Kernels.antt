-- Which columns the kernels compare.
use Rattle.col_core.specs.declared.data_type.PhysicalType.{PhysicalType}
use Rattle.col_core.specs.declared.data_type.PhysicalType.TheVariants as kept

-- whole numbers of at most 64 bits
abbrev pub HasKernels : PhysicalType → Type 0
HasKernels kept.Boolean = ⊥
HasKernels kept.I128 = ⊥
HasKernels kept.Bytes = ⊥
HasKernels _ = Unit {0}
