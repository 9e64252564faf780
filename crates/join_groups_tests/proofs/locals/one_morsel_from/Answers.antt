use Rattle.join_groups_tests.proofs.Fresh.{first_fresh}
use Rattle.join_groups_tests.proofs.locals.one_morsel_from.Goals as goal

pub group_morsel-requires-clause-fresh : goal.group_morsel-requires-clause-fresh
group_morsel-requires-clause-fresh g c =
    let new = c.in_ok-locals.ensures in
    first_fresh c.args.query.now c.index-morsels-0.result.rows c.in_ok-locals.locals.items c.deref_mut.result.now c.deref_mut.ensures.value new.count new.fit new.new
