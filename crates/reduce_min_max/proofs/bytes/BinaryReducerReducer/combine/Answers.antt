use Rattle.std.proofs.Common.{ap, sym, ◌∙◌}
use Rattle.std.proofs.lemmas.Result.{on_ok_weaker}
use Rattle.col_core.specs.declared.leaf.Leaf.TheVariants as leaves
use Rattle.reduce_states.specs.States.{present, merge}
use Rattle.reduce_states.proofs.Merged.{merge-none}
use Rattle.group_reduce.specs.Reducing.{Merges}
use Rattle.kept_values.specs.Kept.{bytes_or_null}
use Rattle.reduce_min_max.proofs.Best.{entered}
use Rattle.reduce_min_max.proofs.bytes.BinaryReducerReducer.combine.Goals as goal

pub returns-in-Some-clause-ok : goal.returns-in-Some-clause-ok
unfolding Merges
returns-in-Some-clause-ok g c =
    let k = g.S.Side.kind in
    let old = bytes_or_null c.args.a.now in
    let new = bytes_or_null c.enter.new.kept in
    let w = leaves.Bytes c.as_slice.result.now in
    let other = ap bytes_or_null c.in-Some.is ∙ ap (λ b. leaves.Bytes b) (sym c.as_slice.ensures.bytes) in
    on_ok_weaker c.enter.result (λ e t x y h i. entered k t x y old w new g.met.S.Side.kind_law h (i ∙ ap present other) e) c.enter.ensures.ok

pub returns-in-None-clause-ok : goal.returns-in-None-clause-ok
unfolding Merges
returns-in-None-clause-ok g c = λ t x y h i.
    ap (merge g.S.Side.kind t x) (i ∙ ap (λ v. present (bytes_or_null v)) c.in-None.is) ∙ merge-none g.S.Side.kind t x ∙ h
