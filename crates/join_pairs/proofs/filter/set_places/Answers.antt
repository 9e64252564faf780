use Rattle.std.proofs.Common.{◌≡◌, ◌∙◌, ℕ, List, [], ◌∷◌, ◌++◌, false, slice_index_or, sym, ap}
use Rattle.join_pairs.proofs.Rows.{more_set, more_unset}
use Rattle.join_pairs.proofs.filter.set_places.Goals as goal
use Rattle.join_pairs.proofs.filter.set_places.Goals.{then-get+in_ok-push, else-get}

pub loop-i-preserved : goal.loop-i-preserved
loop-i-preserved c =
    let set : ℕ → _ = λ k. slice_index_or c.args.bits.now k false in
    elim c.if-get.branch [
      | then-get+in_ok-push w ↦ more_set set c.loop-i.i c.loop-i.places.items c.if-get.places.items c.loop-i.invariant (sym c.get.ensures ∙ w.if-get.true)
          (ap (λ v. v.items) w.places-is ∙ w.in_ok-push.ensures.items ∙ ap (λ (k : ℕ). c.loop-i.places.items ++ k ∷ []) w.row_number.ensures)
      | else-get w ↦ ap (λ v. v.items) w.places-is ∙ more_unset set c.loop-i.i c.loop-i.places.items c.loop-i.invariant (sym c.get.ensures ∙ w.if-get.false)
    ]
