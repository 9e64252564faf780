use Rattle.std.proofs.Common.{rules, sym, subst, arith}
use Rattle.std.specs.List.{AllZip}
use Rattle.reduce_states.specs.States.{start}
use Rattle.reduce_states.proofs.Moved.{cut_or_filled-cut}
use Rattle.group_reduce.specs.Reducing.{AllFit}
use Rattle.group_reduce.specs.Zips.{AllZip-length}
use Rattle.group_reduce.proofs.Kept.{AllZip-take}
use Rattle.group_reduce.proofs.entering.resize_values.Goals as goal

pub returns-then-wanted-held-clause-ok : goal.returns-then-wanted-held-clause-ok
returns-then-wanted-held-clause-ok g c = λ t xs h.
    let R = g.R.Reducer.stands in
    let vs = c.args.kept.now.items in
    let long = AllZip-length R vs xs h in
    rw (c.truncate.ensures.items, cut_or_filled-cut (start g.R.Reducer.kind t) xs c.args.num_groups (omega arith)) (AllZip-take R c.args.num_groups vs xs h)
