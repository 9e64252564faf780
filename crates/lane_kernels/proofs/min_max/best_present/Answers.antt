use Rattle.std.proofs.Common.{◌≡◌, List, [], MatchOption, sym, subst, ◌∙◌}
use Rattle.lane_kernels.specs.Positions.{IsBest}
use Rattle.lane_kernels.proofs.Best.{present_all}
use Rattle.lane_kernels.proofs.min_max.best_present.Goals as goal

pub returns-in-None : goal.returns-in-None
returns-in-None g c =
    let P : List g.row.T.Denot → Type 0 = λ xs. MatchOption c.best.result (xs ≡ []) (IsBest g.C.Comparison.holds g.T.Number.value xs) in
    subst P (c.values-in-None.ensures.values ∙ sym (present_all c.args.items.now c.in-None.ensures)) c.best.ensures
