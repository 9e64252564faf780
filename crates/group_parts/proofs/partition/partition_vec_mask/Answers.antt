use Rattle.std.proofs.Common.{◌≡◌, length, ap, arith}
use Rattle.group_parts.specs.Parts.{dealt}
use Rattle.group_parts.proofs.Places.{zip_at, length-zip}
use Rattle.group_parts.proofs.partition.partition_vec_mask.Goals as goal

pub returns-clause-parts : goal.returns-clause-parts
returns-clause-parts g c =
    let even : length c.in-Ok.masks.items ≡ length c.in_ok-lists.lists.items = omega (arith, c.in-Ok.ensures.parts, c.in_ok-lists.ensures.parts) in
    omega (arith, c.in_ok-lists.ensures.parts, ap length c.paired.ensures, length-zip c.in_ok-lists.lists.items c.in-Ok.masks.items even)

pub returns-clause-ok : goal.returns-clause-ok
returns-clause-ok g c = λ p lt.
    rw c.paired.ensures (zip_at c.in_ok-lists.lists.items c.in-Ok.masks.items p
    (λ list. list.items ≡ dealt p c.args.partition_idxs.now c.args.v.items)
    (λ mask. mask ≡ dealt p c.args.partition_idxs.now c.args.m.now)
    (c.in_ok-lists.ensures.ok p lt) (c.in-Ok.ensures.ok p lt))
