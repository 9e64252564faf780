use Rattle.std.proofs.Common.{length, ◌∙◌, subst, arith}
use Rattle.list_laws.specs.Places.{At}
use Rattle.list_laws.proofs.Places.{at_get, changed_all, changed_here, changed_next, length-changed}
use Rattle.group_locals.specs.Locals.{sized}
use Rattle.group_locals.specs.Columns.{CombinesColumn}
use Rattle.group_locals.proofs.Calls.{alike_at, lent_is}
use Rattle.group_locals.proofs.Pairs.{same_long}
use Rattle.group_locals.proofs.columns.combine_columns.Goals as goal

pub item_mut-requires : goal.item_mut-requires
item_mut-requires g c =
    let a = same_long g.R.Stated.shape (sized c.requires.alike.1) c.args.reductions.now c.requires.alike.0 c.requires.alike.2 in
    let b = same_long g.R.Stated.shape (sized (length c.args.group_idxs.now)) c.args.others.now c.requires.alike.0 c.requires.alike.3 in
    let d = length-changed _ 0 c.loop-r.r c.args.reductions.now c.loop-r.reductions c.loop-r.invariant in
    omega arith

pub combine_column-requires-clause-alike : goal.combine_column-requires-clause-alike
combine_column-requires-clause-alike g c =
    let i = c.loop-r.r in
    let x = c.item_mut.result.now in
    let here = lent_is c.loop-r.reductions i x x c.item_mut.ensures.value ∙ changed_here _ 0 i c.args.reductions.now c.loop-r.reductions x c.loop-r.invariant in
    (alike_at g.R.Stated.shape c.requires.alike.1 (length c.args.group_idxs.now) c.requires.alike.0 c.args.reductions.now c.args.others.now c.requires.alike.2 c.requires.alike.3 i x c.index-others-r.result c.loop-r-test.true here c.index-others-r.is).0

pub combine_column-requires-clause-lengths : goal.combine_column-requires-clause-lengths
combine_column-requires-clause-lengths g c =
    let i = c.loop-r.r in
    let x = c.item_mut.result.now in
    let here = lent_is c.loop-r.reductions i x x c.item_mut.ensures.value ∙ changed_here _ 0 i c.args.reductions.now c.loop-r.reductions x c.loop-r.invariant in
    (alike_at g.R.Stated.shape c.requires.alike.1 (length c.args.group_idxs.now) c.requires.alike.0 c.args.reductions.now c.args.others.now c.requires.alike.2 c.requires.alike.3 i x c.index-others-r.result c.loop-r-test.true here c.index-others-r.is).1

pub loop-r-preserved : goal.loop-r-preserved
loop-r-preserved g c =
    let i = c.loop-r.r in
    let x = c.item_mut.result.now in
    let a = same_long g.R.Stated.shape (sized c.requires.alike.1) c.args.reductions.now c.requires.alike.0 c.requires.alike.2 in
    let b = same_long g.R.Stated.shape (sized (length c.args.group_idxs.now)) c.args.others.now c.requires.alike.0 c.requires.alike.3 in
    let lent = lent_is c.loop-r.reductions i x x c.item_mut.ensures.value in
    changed_next _ i c.args.reductions.now c.loop-r.reductions x c.combine_column.new.reduction (omega arith) c.loop-r.invariant
    (subst (λ z. At (λ o. CombinesColumn g.R.Stated.shape g.R.Stated.holds c.args.groups c.args.group_idxs.now z o c.combine_column.new.reduction) i c.args.others.now) lent
    (at_get _ i c.args.others.now c.index-others-r.result c.loop-r-test.true
    (subst (λ o. CombinesColumn g.R.Stated.shape g.R.Stated.holds c.args.groups c.args.group_idxs.now x o c.combine_column.new.reduction) c.index-others-r.is c.in_ok-combine_column.ensures)))

pub returns : goal.returns
returns g c =
    let a = same_long g.R.Stated.shape (sized c.requires.alike.1) c.args.reductions.now c.requires.alike.0 c.requires.alike.2 in
    let b = same_long g.R.Stated.shape (sized (length c.args.group_idxs.now)) c.args.others.now c.requires.alike.0 c.requires.alike.3 in
    changed_all _ 0 c.loop-r.r c.args.reductions.now c.loop-r.reductions (omega arith) c.loop-r.invariant
