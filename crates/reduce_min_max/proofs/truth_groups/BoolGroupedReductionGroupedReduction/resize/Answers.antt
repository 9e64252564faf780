use Rattle.std.proofs.lemmas.Result.{on_ok_weaker}
use Rattle.col_core.specs.declared.data_type.DataType.TheVariants as types
use Rattle.reduce_min_max.proofs.TruthStates.{resized_states}
use Rattle.reduce_min_max.proofs.truth_groups.BoolGroupedReductionGroupedReduction.resize.Goals as goal

pub returns-clause-ok : goal.returns-clause-ok
returns-clause-ok g c =
    on_ok_weaker c.resize.result (λ e xs h. resized_states g.S.Side.kind types.Boolean c.args.self.now.truths c.resize.new.self xs c.args.num_groups g.met.S.Side.kind_law e h) c.resize.ensures.ok
