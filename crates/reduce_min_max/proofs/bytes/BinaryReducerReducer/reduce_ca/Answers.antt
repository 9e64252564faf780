use Rattle.std.proofs.Common.{ap, sym, ◌∙◌, option_copied}
use Rattle.std.proofs.lemmas.Result.{on_ok_weaker}
use Rattle.col_core.specs.declared.leaf.Leaf.TheVariants as leaves
use Rattle.reduce_model.specs.Folds.{fold_of}
use Rattle.reduce_states.specs.States.{present}
use Rattle.group_reduce.specs.Reducing.{TakesAll}
use Rattle.kept_values.specs.Kept.{bytes_or_null}
use Rattle.reduce_min_max.proofs.Best.{entered, after_merged, merge-null}
use Rattle.reduce_min_max.proofs.bytes.BinaryReducerReducer.reduce_ca.Goals as goal

pub returns-in-Some-clause-ok : goal.returns-in-Some-clause-ok
unfolding TakesAll
returns-in-Some-clause-ok g c =
    let k = g.S.Side.kind in
    let old = bytes_or_null c.args.v.now in
    let new = bytes_or_null c.enter.new.kept in
    let vs = c.args.ca.now.values in
    let w = leaves.Bytes c.in-Some.bytes.now in
    let skips = g.met.S.Side.kind_law in
    on_ok_weaker c.enter.result (λ e t n x f h.
    let best = sym (c.best_of_column.ensures.best t) ∙ ap (λ r. bytes_or_null (option_copied r)) c.in-Some.is in
    after_merged k t n x vs skips ∙ entered k t x (present (fold_of k t vs)) old w new skips h (ap present best) e) c.enter.ensures.ok

pub returns-in-None-clause-ok : goal.returns-in-None-clause-ok
unfolding TakesAll
returns-in-None-clause-ok g c = λ t n x f h.
    let k = g.S.Side.kind in
    let vs = c.args.ca.now.values in
    let nothing = sym (c.best_of_column.ensures.best t) ∙ ap (λ r. bytes_or_null (option_copied r)) c.in-None.is in
    after_merged k t n x vs g.met.S.Side.kind_law ∙ merge-null k t x (fold_of k t vs) nothing ∙ h
