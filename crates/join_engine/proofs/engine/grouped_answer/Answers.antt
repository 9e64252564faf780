use Rattle.std.proofs.Common.{◌∙◌, arith}
use Rattle.join_engine.proofs.Morsels.{few_groups, groupers_listed, groups_listed, some_locals}
use Rattle.join_engine.proofs.engine.grouped_answer.Goals as goal

pub merge_groups-requires-clause-some : goal.merge_groups-requires-clause-some
merge_groups-requires-clause-some g c = some_locals c.args.query.now c.requires.listed.0 c.args.listing c.requires.plan c.requires.listed.1

pub returns-clause-groups : goal.returns-clause-groups
returns-clause-groups g c = λ ms h. groups_listed c.args.query.now ms c.args.listing c.requires.plan h c.in_ok-merged.merged.groups c.in_ok-merged.ensures.groups

pub returns-clause-locals : goal.returns-clause-locals
returns-clause-locals g c = λ ms h. c.in_ok-merged.ensures.groupers ∙ groupers_listed c.args.query.now ms c.args.listing c.requires.plan h

pub returns-clause-cost : goal.returns-clause-cost
returns-clause-cost g c = omega (arith, c.in_ok-merged.ensures.cost, few_groups c.args.query.now c.requires.listed.0 c.args.listing c.requires.plan c.requires.listed.1)
