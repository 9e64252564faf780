use Rattle.std.proofs.Common.{None}
use Rattle.reduce_sum.proofs.Totals.{total_at_some}
use Rattle.reduce_sum.proofs.adding.fn.add_totals_at.number.Goals as goal

pub returns : goal.returns
returns g c = λ t. total_at_some g.T.Number.value t c.captures.others.now c.captures.subset.now c.args.i c.index-others-subset.result None c.requires.0 (c.requires.1 c.args.i 0 c.requires.0) c.index-others-subset.is
