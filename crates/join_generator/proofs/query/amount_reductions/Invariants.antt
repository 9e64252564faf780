use Rattle.std.proofs.Common.{◌≡◌, map, take}
use Rattle.join_generator.specs.Generated.{amount_reduction}
use Rattle.join_generator.proofs.query.amount_reductions.Given as goal

abbrev pub invariant-loop-kind : goal.invariant-loop-kind
invariant-loop-kind l = l.made.items ≡ map amount_reduction (take l.kind-index l.kinds)
