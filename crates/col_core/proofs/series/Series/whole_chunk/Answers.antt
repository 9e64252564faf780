use Rattle.std.proofs.Common.{◌∙◌}
use Rattle.std.proofs.lemmas.Result.{IfOk-weaker}
use Rattle.col_core.proofs.Leaves.{whole_range}
use Rattle.col_core.proofs.series.Series.whole_chunk.Goals as goal

pub returns-clause-values : goal.returns-clause-values
returns-clause-values c =
    IfOk-weaker c.joined_chunk.result _ _ (λ chunk is. is ∙ whole_range c.args.self.now.values c.len.result c.len.ensures) c.joined_chunk.ensures.values
