use Rattle.std.proofs.Common.{◌≡◌, inl, Some, sym, ap, subst, ◌∙◌}
use Rattle.col_core.specs.Lent.{lent_leaf}
use Rattle.reduce_states.specs.States.{present, one}
use Rattle.group_reduce.specs.Reducing.{TakesOne}
use Rattle.kept_values.specs.Kept.{number_or_null}
use Rattle.kept_values.proofs.Types.{fits_kept_as}
use Rattle.reduce_min_max.specs.Best.{IsBestSoFar}
use Rattle.reduce_min_max.proofs.Best.{one_present, takes_null, none_left}
use Rattle.reduce_min_max.proofs.numbers.NumReducerReducer.reduce_one.Goals as goal

pub returns-in-Some-clause-ok : goal.returns-in-Some-clause-ok
unfolding TakesOne
returns-in-Some-clause-ok g c = λ t n x e h.
    let k = g.R.NumericReduction.kind in
    let value = g.R.Elem.Number.value in
    let leaf = lent_leaf c.args.b in
    let entered : one k t (record { number = n; value = leaf }) ≡ present (number_or_null value (Some c.in-Some.number)) =
    one_present k t n leaf g.met.R.NumericReduction.kind_law ∙ ap present (sym c.number_of.ensures ∙ ap (number_or_null value) c.in-Some.is) in
    c.enter.ensures t x (one k t (record { number = n; value = leaf })) h (inl entered)

pub returns-in_default-clause-ok : goal.returns-in_default-clause-ok
unfolding TakesOne
returns-in_default-clause-ok g c = λ t n x e h.
    let k = g.R.NumericReduction.kind in
    let value = g.R.Elem.Number.value in
    let leaf = lent_leaf c.args.b in
    let nothing = sym c.number_of.ensures ∙ ap (number_or_null value) (none_left c.number_of.result c.in_default.not-Some) in
    subst (IsBestSoFar g.R.NumericReduction.start (value c.args.a.now)) (sym (takes_null k t n x leaf g.met.R.NumericReduction.kind_law nothing)) h

pub number_of-requires : goal.number_of-requires
number_of-requires g c =
    let served = c.requires.served in
    (g.met.R.Elem.ColumnNumber.kept_law (lent_leaf c.args.b)).0 (fits_kept_as g.R.Elem.ColumnNumber.physical served.0 (lent_leaf c.args.b) served.1 served.2)
