use Rattle.std.proofs.Common.{[], ◌∷◌, ◌++◌, ap, sym, subst, ◌∙◌, arith, take, get_or, List, MatchOption, ◌≡◌, true, false}
use Rattle.lane_kernels.specs.Positions.{IsBest, filtered}
use Rattle.lane_kernels.proofs.Filtered.{filtered_more_yes, filtered_more_no}
use Rattle.lane_kernels.proofs.min_max.best_where.Goals as goal
use Rattle.lane_kernels.proofs.min_max.best_where.Goals.{then-get, else-get}

pub loop-i-preserved : goal.loop-i-preserved
loop-i-preserved g c =
    let xs = c.args.values.now in
    let mask = c.args.validity.now in
    let i = c.loop-i.i in
    let front = filtered (take i xs) (take i mask) in
    let beats = g.C.Comparison.holds in
    let value = g.T.Number.value in
    elim c.if-get.branch [
      | then-get w ↦
          let set : get_or mask i false ≡ true = sym c.get.ensures ∙ w.if-get.true in
          let x = w.index-values-i.result in
          let P : List g.row.T.Denot → Type 0 = λ all. IsBest beats value all w.better.result in
          rw w.best-is (subst P (ap (λ y. front ++ y ∷ []) w.index-values-i.is ∙ sym (filtered_more_yes xs mask i x (omega arith) (omega arith) set)) (w.better.ensures front c.loop-i.invariant))
      | else-get w ↦
          let unset : get_or mask i false ≡ false = sym c.get.ensures ∙ w.if-get.false in
          let P : List g.row.T.Denot → Type 0 = λ all. MatchOption c.loop-i.best (all ≡ []) (IsBest beats value all) in
          rw w.best-is (subst P (sym (filtered_more_no xs mask i (omega arith) (omega arith) unset)) c.loop-i.invariant)
    ]
