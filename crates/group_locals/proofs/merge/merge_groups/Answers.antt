use Rattle.std.proofs.Common.{length, ap, ◌∙◌, subst}
use Rattle.std.proofs.lemmas.List.{length-map}
use Rattle.group_locals.specs.Locals.{LocalsFit}
use Rattle.group_locals.specs.Merging.{MergesAll, merged_first}
use Rattle.group_locals.proofs.Ordered.{merged_groups}
use Rattle.group_locals.proofs.Takes.{groups_are}
use Rattle.group_locals.proofs.merge.merge_groups.Goals as goal

pub ordered_groups-requires-clause-long : goal.ordered_groups-requires-clause-long
ordered_groups-requires-clause-long g c =
    let of = c.requires.fit.0 in
    let so = subst (λ ls. LocalsFit g.R.Stated.shape of ls → MergesAll g.R.Stated.shape g.R.Stated.holds of ls c.in_ok-whole.whole) c.deref.ensures.value (c.in_ok-whole.ensures.ok of) c.requires.fit.1 in
    ap length so.firsts_are ∙ length-map c.in_ok-whole.whole.grouper.keys (merged_first c.args.locals.items)

pub ordered_groups-requires-clause-groups : goal.ordered_groups-requires-clause-groups
ordered_groups-requires-clause-groups g c =
    let of = c.requires.fit.0 in
    let so = subst (λ ls. LocalsFit g.R.Stated.shape of ls → MergesAll g.R.Stated.shape g.R.Stated.holds of ls c.in_ok-whole.whole) c.deref.ensures.value (c.in_ok-whole.ensures.ok of) c.requires.fit.1 in
    groups_are g.R.Stated.shape (length c.in_ok-whole.whole.grouper.keys) of.shapes c.in_ok-whole.whole.reductions so.is_of.shapes_are

pub returns-clause-groups : goal.returns-clause-groups
returns-clause-groups g c = λ of fits.
    let so = subst (λ ls. LocalsFit g.R.Stated.shape of ls → MergesAll g.R.Stated.shape g.R.Stated.holds of ls c.in_ok-whole.whole) c.deref.ensures.value (c.in_ok-whole.ensures.ok of) fits in
    merged_groups g.R.Stated.shape g.R.Stated.holds of c.args.locals.items c.in_ok-whole.whole c.in_ok-groups.groups so c.in_ok-groups.ensures
