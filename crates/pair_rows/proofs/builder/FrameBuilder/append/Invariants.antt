use Rattle.pair_rows.specs.Growing.{ExtendedUpTo}
use Rattle.pair_rows.proofs.builder.FrameBuilder.append.Given as goal

abbrev pub invariant-loop-i : goal.invariant-loop-i
invariant-loop-i l = ExtendedUpTo l.rows l.i l.initial.columns.items l.columns.items
