use Rattle.std.proofs.Common.{arith}
use Rattle.group_locals.proofs.Calls.{on_ok}
use Rattle.group_locals.proofs.Fits.{inside_of, more_came}
use Rattle.group_locals.proofs.Merges.{local_merges_from}
use Rattle.group_locals.proofs.local.LocalState.absorb.Goals as goal

pub merge_rows-requires-clause-more : goal.merge_rows-requires-clause-more
merge_rows-requires-clause-more g c =
    let m = more_came c.args.other.now.grouper.keys c.args.self.now.grouper.keys c.combine.new.self.keys c.combine.new.group_idxs.items c.num_groups-groups.result c.in_ok-combine.ensures.ok c.num_groups-groups.ensures.count in
    omega (arith, c.requires.long)

pub merge_rows-requires-clause-places : goal.merge_rows-requires-clause-places
merge_rows-requires-clause-places g c = inside_of c.args.other.now.grouper.keys c.args.self.now.grouper.keys c.combine.new.self.keys c.combine.new.group_idxs.items c.deref.result.now c.num_groups-groups.result c.in_ok-combine.ensures.ok c.deref.ensures.value c.num_groups-groups.ensures.count

pub combine_columns-requires-clause-places : goal.combine_columns-requires-clause-places
combine_columns-requires-clause-places g c = inside_of c.args.other.now.grouper.keys c.args.self.now.grouper.keys c.combine.new.self.keys c.combine.new.group_idxs.items c.deref-2.result.now c.num_groups-groups.result c.in_ok-combine.ensures.ok c.deref-2.ensures.value c.num_groups-groups.ensures.count

pub returns-clause-ok : goal.returns-clause-ok
returns-clause-ok g c = on_ok c.combine_columns.result _ _ c.combine_columns.ensures (λ columns.
    local_merges_from g.R.Stated.shape g.R.Stated.holds c.args.self.now c.args.other.now (record { grouper = c.combine.new.self; reductions = c.combine_columns.new.reductions; first_rows = c.merge_rows.new.first_rows })
    c.combine.new.group_idxs.items c.deref.result.now c.deref-2.result.now c.as_slice.result.now c.as_slice-2.result.now c.num_groups-groups.result c.deref.ensures.value c.deref-2.ensures.value c.as_slice.ensures c.as_slice-2.ensures c.num_groups-groups.ensures.count c.in_ok-combine.ensures.schema c.in_ok-combine.ensures.state c.in_ok-combine.ensures.ok c.in_ok-merge_rows.ensures columns)
