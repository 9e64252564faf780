use Rattle.std.proofs.Common.{false}
use Rattle.std.proofs.lemmas.Bool.{false≢true}
use Rattle.col_core.specs.declared.leaf.Leaf.TheVariants as leaves
use Rattle.kept_values.proofs.Masked.{finished_plain, finished_masked}
use Rattle.reduce_min_max.specs.Best.{IsBestSoFar}
use Rattle.reduce_min_max.proofs.Best.{best_given}
use Rattle.reduce_min_max.proofs.numbers.NumReducerReducer.finish.Goals as goal

pub returns-clause-plain : goal.returns-clause-plain
returns-clause-plain g c =
    let start = g.R.NumericReduction.start in
    let value = g.R.Elem.Number.value in
    finished_plain (λ s. s.values) c.finished_column.result (λ v x. IsBestSoFar start (value v) x) false (λ v. leaves.Whole (value v)) c.args.v.now c.args.m (λ b. b.now)
    (λ v e h. best_given start (value v) e h) (λ v t h. absurd (false≢true t)) c.finished_column.ensures.values

pub returns-clause-masked : goal.returns-clause-masked
returns-clause-masked g c =
    let start = g.R.NumericReduction.start in
    let value = g.R.Elem.Number.value in
    finished_masked (λ s. s.values) c.finished_column.result (λ v x. IsBestSoFar start (value v) x) false (λ v. leaves.Whole (value v)) c.args.v.now c.args.m (λ b. b.now)
    (λ v e h. best_given start (value v) e h) (λ v t h. absurd (false≢true t)) c.finished_column.ensures.values c.requires.mask
