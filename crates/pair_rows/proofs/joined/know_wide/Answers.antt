use Rattle.std.proofs.Common.{subst}
use Rattle.std.specs.List.{All}
use Rattle.std.proofs.lemmas.List.{take_all}
use Rattle.std.proofs.lemmas.List.Elements.{All-more}
use Rattle.col_core.specs.Tables.{AreWide}
use Rattle.pair_rows.proofs.joined.know_wide.Goals as goal

pub loop-frame-preserved : goal.loop-frame-preserved
loop-frame-preserved c =
    All-more AreWide c.args.frames.now c.loop-frame.frame-index c.frame-item.result c.loop-frame-test.true c.loop-frame.invariant
    (subst AreWide c.frame-item.is c.height-height.ensures.wide)

pub returns : goal.returns
returns c = subst (All AreWide) (take_all c.loop-frame.frame-index c.args.frames.now c.loop-frame-test.false) c.loop-frame.invariant
