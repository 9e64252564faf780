use Rattle.std.proofs.Common.{◌∙◌, arith}
use Rattle.group_parts.specs.Parts.{dealt}
use Rattle.group_reduce.specs.Zips.{AllZip-length}
use Rattle.group_reduce.proofs.Kept.{AllZip-at_place}
use Rattle.group_reduce.proofs.wrapped.parts_in.Goals as goal

pub returns-in-Ok-clause-parts : goal.returns-in-Ok-clause-parts
returns-in-Ok-clause-parts g c = omega (arith, AllZip-length _ c.in-Ok.parts.items c.wrap_all.result.items c.wrap_all.ensures, c.in-Ok.ensures.parts)

pub returns-in-Ok-clause-shapes : goal.returns-in-Ok-clause-shapes
returns-in-Ok-clause-shapes g c = λ p lt.
    AllZip-at_place _ c.in-Ok.parts.items c.wrap_all.result.items p _ _ c.wrap_all.ensures (c.in-Ok.ensures.shapes p lt)
    (λ part whole r h. c.requires.shapes part whole r ∙ h)

pub returns-in-Ok-clause-ok : goal.returns-in-Ok-clause-ok
returns-in-Ok-clause-ok g c = λ xs h p lt.
    AllZip-at_place _ c.in-Ok.parts.items c.wrap_all.result.items p _ _ c.wrap_all.ensures (c.in-Ok.ensures.ok xs h p lt)
    (λ part whole r k. c.requires.holds part whole (dealt p c.args.partition_idxs.now xs) r k)
