use Rattle.std.proofs.Common.{sym, subst}
use Rattle.std.specs.List.{All}
use Rattle.col_core.specs.Values.{Fits}
use Rattle.col_core.proofs.series.Series.try_clone.Goals as goal

pub from_chunk-requires-clause-fits : goal.from_chunk-requires-clause-fits
from_chunk-requires-clause-fits c =
    subst (All (Fits c.dtype.result)) (sym c.in_ok-chunk.ensures.values) c.dtype.ensures.fits
