use Rattle.std.proofs.Common.{◌≡◌, List, [], map, get_or, sym, ap, ◌∙◌, subst, arith}
use Rattle.std.proofs.lemmas.List.{get_or-map}
use Rattle.col_core.specs.declared.leaf.Leaf.{Leaf}
use Rattle.list_laws.proofs.Places.{changed_all, changed_here, changed_next, length-changed}
use Rattle.group_locals.specs.Columns.{EntersColumn}
use Rattle.group_locals.proofs.Calls.{lent_is}
use Rattle.group_locals.proofs.Pairs.{same_at, same_long}
use Rattle.group_locals.proofs.columns.enter_columns.Goals as goal

pub item_mut-requires : goal.item_mut-requires
item_mut-requires g c =
    let a = same_long (λ v. v.now.dtype) (λ a. (g.R.Stated.shape a).dtype) c.args.values.now c.args.reductions.now c.requires.types in
    let b = length-changed _ 0 c.loop-r.r c.args.reductions.now c.loop-r.reductions c.loop-r.invariant in
    omega arith

pub enter_column-requires-clause-dtype : goal.enter_column-requires-clause-dtype
enter_column-requires-clause-dtype g c =
    let i = c.loop-r.r in
    let x = c.item_mut.result.now in
    let here = lent_is c.loop-r.reductions i x x c.item_mut.ensures.value ∙ changed_here _ 0 i c.args.reductions.now c.loop-r.reductions x c.loop-r.invariant in
    same_at (λ v. v.now.dtype) (λ a. (g.R.Stated.shape a).dtype) c.args.values.now c.args.reductions.now c.requires.types i c.index-values-r.result x c.loop-r-test.true c.index-values-r.is here

pub loop-r-preserved : goal.loop-r-preserved
loop-r-preserved g c =
    let i = c.loop-r.r in
    let x = c.item_mut.result.now in
    let wide = same_long (λ v. v.now.dtype) (λ a. (g.R.Stated.shape a).dtype) c.args.values.now c.args.reductions.now c.requires.types in
    let lent = lent_is c.loop-r.reductions i x x c.item_mut.ensures.value in
    let values : c.index-values-r.result.now.values ≡ get_or (map (λ v. v.now.values) c.args.values.now) i [] = ap (λ v. v.now.values) c.index-values-r.is ∙ sym (get_or-map (λ v. v.now.values) c.args.values.now i c.index-values-r.result [] c.loop-r-test.true) in
    changed_next _ i c.args.reductions.now c.loop-r.reductions x c.enter_column.new.reduction (omega arith) c.loop-r.invariant
    (subst (λ a. EntersColumn g.R.Stated.shape g.R.Stated.holds c.args.groups c.args.group_idxs.now c.args.seq_id (get_or (map (λ v. v.now.values) c.args.values.now) i []) a c.enter_column.new.reduction) lent
    (subst (λ (vs : List Leaf). EntersColumn g.R.Stated.shape g.R.Stated.holds c.args.groups c.args.group_idxs.now c.args.seq_id vs x c.enter_column.new.reduction) values c.in_ok-enter_column.ensures))

pub returns : goal.returns
returns g c =
    let wide = same_long (λ v. v.now.dtype) (λ a. (g.R.Stated.shape a).dtype) c.args.values.now c.args.reductions.now c.requires.types in
    changed_all _ 0 c.loop-r.r c.args.reductions.now c.loop-r.reductions (omega arith) c.loop-r.invariant
