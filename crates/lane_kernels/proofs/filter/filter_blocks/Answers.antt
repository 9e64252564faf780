use Rattle.std.proofs.Common.{◌≡◌, ◌*◌, ◌/◌, length, take, ap, arith}
use Rattle.std.proofs.Math.Nat.{div-mul-le_self}
use Rattle.std.proofs.lemmas.List.{length-take}
use Rattle.col_arrays.proofs.BitLists.{length-bits}
use Rattle.lane_kernels.proofs.filter.filter_blocks.Goals as goal

pub filter_values-requires : goal.filter_values-requires
filter_values-requires g c =
    let len = length c.args.values.now in
    let n = len / c.args.block * c.args.block in
    omega (arith, ap length c.new.ensures, length-bits c.args.mask_bytes.now 0 n, length-take n c.args.values.now, div-mul-le_self len c.args.block)
