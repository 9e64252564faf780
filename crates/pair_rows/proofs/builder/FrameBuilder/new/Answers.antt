use Rattle.std.proofs.Common.{map, ap, ◌∙◌}
use Rattle.pair_rows.specs.Growing.{empty_column}
use Rattle.pair_rows.proofs.Growing.{none_growing}
use Rattle.pair_rows.proofs.builder.FrameBuilder.new.Goals as goal

pub invariant_of-result : goal.invariant_of-result
invariant_of-result c = none_growing c.args.schema c.in_ok-columns.columns.items (c.in_ok-columns.ensures ∙ ap (map empty_column) c.fields.ensures)
