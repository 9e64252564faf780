use Rattle.std.proofs.Common.{◌≡◌, map}
use Rattle.group_locals.proofs.order.groupers_of.Given as goal

abbrev pub invariant-loop-local : goal.invariant-loop-local
invariant-loop-local g l = l.groupers.items ≡ map (λ l. l.grouper) l.yielded
