use Rattle.std.proofs.Common.{ap, ◌∙◌}
use Rattle.reduce_model.specs.Folds.{better}
use Rattle.kept_values.specs.Kept.{truth_or_null}
use Rattle.reduce_min_max.specs.Best.{order_of}
use Rattle.reduce_min_max.proofs.TruthStates.{state_set}
use Rattle.reduce_min_max.proofs.truth_groups.BoolGroupedReduction.merge_at.Goals as goal

pub returns-clause-states : goal.returns-clause-states
returns-clause-states g c = λ t.
    let k = g.S.Side.kind in
    let truth = c.args.truth in
    let is = c.better_truth-kept.ensures ∙ ap (λ a. better (order_of k) (truth_or_null a) (truth_or_null truth)) c.get.ensures in
    state_set k t c.args.self.now.truths c.set.new.self c.args.g truth c.better_truth-kept.result g.met.S.Side.kind_law c.requires is c.set.ensures
