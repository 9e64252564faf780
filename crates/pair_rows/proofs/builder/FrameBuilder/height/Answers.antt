use Rattle.std.proofs.Common.{length, sym, ap, ◌∙◌}
use Rattle.col_core.specs.Tables.{Table}
use Rattle.pair_rows.proofs.Growing.{growing_long}
use Rattle.pair_rows.proofs.builder.FrameBuilder.height.Goals as goal

pub returns : goal.returns
returns c = sym (growing_long c.self.inside.columns.items c.self.inside.height) ∙ ap (λ (t : Table). length t.rows) c.self.view_is
