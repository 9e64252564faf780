use Rattle.std.proofs.Common.{◌≡◌, false}
use Rattle.reduce_model.specs.Folds.{is_unsupported}
use Rattle.join_query.specs.declared.query.Reduction.{Reduction}
use Rattle.join_model.specs.ColumnRefs.{ref_type}
use Rattle.join_groups.proofs.Known.{at_item}
use Rattle.join_groups.proofs.Supported.{each_supported}
use Rattle.join_groups.proofs.locals.new_reductions.Goals as goal

pub new_supported-requires : goal.new_supported-requires
new_supported-requires c = at_item (λ (r : Reduction). is_unsupported r.kind (ref_type c.args.query.now r.column) ≡ false) c.args.query.now.reductions c.as_slice-reduction-items.result.now c.loop-reduction.reduction-index c.reduction-item.result (each_supported c.args.query.now c.requires.supported) c.as_slice-reduction-items.ensures c.loop-reduction-test.true c.reduction-item.is
