use Rattle.std.proofs.Common.{None}
use Rattle.reduce_sum.proofs.Totals.{total_at}
use Rattle.reduce_sum.proofs.adding.fn.add_totals.number.Goals as goal

pub returns : goal.returns
returns g c = λ t. total_at g.T.Number.value t c.captures.others.now c.args.i c.index-others-i.result None c.requires c.index-others-i.is
