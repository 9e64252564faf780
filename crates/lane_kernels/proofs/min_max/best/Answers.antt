use Rattle.std.proofs.Common.{[], ◌∷◌, ◌++◌, ap, sym, subst, ◌∙◌, arith, take, List}
use Rattle.std.proofs.lemmas.List.{take_more}
use Rattle.lane_kernels.specs.Positions.{IsBest}
use Rattle.lane_kernels.proofs.min_max.best.Goals as goal

pub loop-i-preserved : goal.loop-i-preserved
loop-i-preserved g c =
    let xs = c.args.values.now in
    let i = c.loop-i.i in
    let x = c.index-values-i.result in
    let P : List g.row.T.Denot → Type 0 = λ all. IsBest g.C.Comparison.holds g.T.Number.value all c.better.result in
    subst P (ap (λ y. take i xs ++ y ∷ []) c.index-values-i.is ∙ sym (take_more xs i x (omega arith))) (c.better.ensures (take i xs) c.loop-i.invariant)
