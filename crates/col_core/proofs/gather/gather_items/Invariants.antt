use Rattle.std.proofs.Common.{◌≡◌, map, take}
use Rattle.col_core.specs.Places.{picked}
use Rattle.col_core.proofs.gather.gather_items.Given as goal

abbrev pub invariant-loop-place : goal.invariant-loop-place
invariant-loop-place g l = g.A.ValueArray.values l.gathered ≡ map (picked (map (λ source. g.A.ValueArray.values source.now) l.fn.sources)) (take l.place-index l.places)
