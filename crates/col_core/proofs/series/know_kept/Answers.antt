use Rattle.std.proofs.Common.{subst}
use Rattle.std.specs.List.{All}
use Rattle.std.proofs.lemmas.List.{take_all}
use Rattle.std.proofs.lemmas.List.Elements.{All-more}
use Rattle.col_core.specs.Tables.{IsWellKept}
use Rattle.col_core.proofs.series.know_kept.Goals as goal

pub loop-chunk-preserved : goal.loop-chunk-preserved
loop-chunk-preserved c =
    All-more IsWellKept c.args.chunks.now c.loop-chunk.chunk-index c.chunk-item.result c.loop-chunk-test.true c.loop-chunk.invariant
    (subst IsWellKept c.chunk-item.is c.len-count.ensures.kept)

pub returns : goal.returns
returns c = subst (All IsWellKept) (take_all c.loop-chunk.chunk-index c.args.chunks.now c.loop-chunk-test.false) c.loop-chunk.invariant
