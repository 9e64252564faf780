use Rattle.std.proofs.Common.{◌≡◌, inl, Some, sym, ap, subst, ◌∙◌}
use Rattle.reduce_model.specs.Folds.{fold_of}
use Rattle.reduce_states.specs.States.{present}
use Rattle.group_reduce.specs.Reducing.{TakesAll}
use Rattle.kept_values.specs.Kept.{number_or_null}
use Rattle.reduce_min_max.specs.Best.{IsBestSoFar}
use Rattle.reduce_min_max.proofs.Best.{after_merged, none_left, merge-null}
use Rattle.reduce_min_max.proofs.numbers.NumReducerReducer.reduce_ca.Goals as goal

pub returns-in-Some-clause-ok : goal.returns-in-Some-clause-ok
unfolding TakesAll
returns-in-Some-clause-ok g c = λ t n x e h.
    let k = g.R.NumericReduction.kind in
    let value = g.R.Elem.Number.value in
    let vs = c.args.ca.now.values in
    let best : present (fold_of k t vs) ≡ present (number_or_null value (Some c.in-Some.best)) =
    ap present (sym (c.reduce_ca.ensures t) ∙ ap (number_or_null value) c.in-Some.is) in
    subst (IsBestSoFar g.R.NumericReduction.start (value c.enter.new.kept)) (sym (after_merged k t n x vs g.met.R.NumericReduction.kind_law)) (c.enter.ensures t x (present (fold_of k t vs)) h (inl best))

pub returns-in_default-clause-ok : goal.returns-in_default-clause-ok
unfolding TakesAll
returns-in_default-clause-ok g c = λ t n x e h.
    let k = g.R.NumericReduction.kind in
    let value = g.R.Elem.Number.value in
    let vs = c.args.ca.now.values in
    let nothing = sym (c.reduce_ca.ensures t) ∙ ap (number_or_null value) (none_left c.reduce_ca.result c.in_default.not-Some) in
    subst (IsBestSoFar g.R.NumericReduction.start (value c.args.v.now)) (sym (after_merged k t n x vs g.met.R.NumericReduction.kind_law ∙ merge-null k t x (fold_of k t vs) nothing)) h
