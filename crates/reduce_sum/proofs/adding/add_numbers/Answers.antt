use Rattle.std.proofs.Common.{map, None, sym, ap, ◌∙◌, arith}
use Rattle.std.proofs.lemmas.List.{length-map}
use Rattle.col_core.specs.Values.{number_leaf}
use Rattle.reduce_model.specs.declared.kind.ReductionKind.TheVariants.{Sum}
use Rattle.reduce_states.specs.States.{total}
use Rattle.reduce_states.specs.Moves.{ones}
use Rattle.reduce_states.proofs.Moved.{length-ones, get_or-ones}
use Rattle.reduce_sum.proofs.adding.add_numbers.Goals as goal

pub returns-clause-entered : goal.returns-clause-entered
returns-clause-entered g c = λ t n w.
    let vs = map (number_leaf g.S.Number.value) c.args.numbers.now in
    let long = length-map c.args.numbers.now (number_leaf g.S.Number.value) in
    c.add_each.ensures.entered t (ones Sum t n vs) w (length-ones Sum t n vs ∙ long ∙ c.requires.lengths)
    (λ i x lt is. ap (total t) is ∙ sym (get_or-ones Sum t n vs i None (omega (arith, lt, long, c.requires.lengths))))
