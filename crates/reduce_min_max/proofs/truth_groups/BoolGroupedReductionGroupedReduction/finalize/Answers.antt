use Rattle.std.proofs.Common.{ap, ◌∙◌}
use Rattle.col_core.specs.Tables.{Column}
use Rattle.reduce_min_max.proofs.TruthStates.{given_states}
use Rattle.reduce_min_max.proofs.truth_groups.BoolGroupedReductionGroupedReduction.finalize.Goals as goal

pub returns-clause-ok : goal.returns-clause-ok
returns-clause-ok g c = λ xs h. ap (λ (s : Column). s.values) c.in_ok-column.ensures ∙ given_states c.args.self.now.truths xs h
