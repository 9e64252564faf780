use Rattle.std.proofs.Common.{subst}
use Rattle.std.specs.List.{All}
use Rattle.std.proofs.lemmas.List.{take_all}
use Rattle.std.proofs.lemmas.List.Elements.{All-more}
use Rattle.col_arrays.proofs.primitive.know_numbers.Goals as goal

pub loop-value-preserved : goal.loop-value-preserved
loop-value-preserved g c =
    let IsNumber : g.row.T.Denot → Type 0 = λ x. g.T.Number.fits (g.T.Number.value x) in
    All-more IsNumber c.args.values.now c.loop-value.value-index c.value-item.result c.loop-value-test.true c.loop-value.invariant
    (subst IsNumber c.value-item.is c.to_whole-number.ensures.fits)

pub returns : goal.returns
returns g c =
    let IsNumber : g.row.T.Denot → Type 0 = λ x. g.T.Number.fits (g.T.Number.value x) in
    subst (All IsNumber) (take_all c.loop-value.value-index c.args.values.now c.loop-value-test.false) c.loop-value.invariant
