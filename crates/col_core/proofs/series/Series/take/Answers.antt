use Rattle.std.proofs.Common.{sym, subst}
use Rattle.std.specs.List.{All}
use Rattle.col_core.specs.Values.{Fits}
use Rattle.col_core.proofs.Leaves.{fits_taken}
use Rattle.col_core.proofs.series.Series.take.Goals as goal

pub from_chunk-requires-clause-fits : goal.from_chunk-requires-clause-fits
from_chunk-requires-clause-fits c =
    subst (All (Fits c.dtype.result)) (sym c.in_ok-chunk.ensures.values) (fits_taken c.dtype.result c.args.self.now.values c.args.idxs.now c.dtype.ensures.fits c.requires.in_bounds)
