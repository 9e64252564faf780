use Rattle.std.proofs.Common.{◌∙◌, sym, subst}
use Rattle.col_core.specs.Values.{Fits}
use Rattle.col_core.proofs.series.Series.leaf_ref.Goals as goal

pub returns-clause-fits : goal.returns-clause-fits
returns-clause-fits c = subst (Fits c.args.self.now.dtype) (sym (c.leaf_ref.ensures.value ∙ c.chunk_at-place.ensures.value)) c.chunk_at-place.ensures.fits
