use Rattle.join_query.specs.declared.query.Reduction.{Reduction}
use Rattle.join_groups.specs.Keyed.{IsKnown}
use Rattle.join_groups.proofs.Known.{at_item, reductions_known}
use Rattle.join_groups.proofs.columns.reduction_columns.Goals as goal

pub joined_column-requires-clause-known : goal.joined_column-requires-clause-known
joined_column-requires-clause-known c = at_item (λ (r : Reduction). IsKnown c.args.query.now r.column) c.args.query.now.reductions c.as_slice-reduction-items.result.now c.loop-reduction.reduction-index c.reduction-item.result (reductions_known c.args.query.now c.requires.known) c.as_slice-reduction-items.ensures c.loop-reduction-test.true c.reduction-item.is
