use Rattle.kept_values.specs.Kept.{number_or_null}
use Rattle.group_reduce.specs.Reducing.{Merges}
use Rattle.reduce_first_last.proofs.Numbering.{replaced, left}
use Rattle.reduce_first_last.proofs.numbers.NumFirstLastReducerReducer.combine.Goals as goal

pub returns-then-replaces-clause-ok : goal.returns-then-replaces-clause-ok
unfolding Merges
returns-then-replaces-clause-ok g c = λ t x y h i.
    let value = g.T.Number.value in
    let a = c.args.a.now in
    let b = c.args.b.now in
    let v = number_or_null value a.value in
    let w = number_or_null value b.value in
    replaced g.P.Policy.kind t x y a.number b.number v w c.replaces.result (c.replaces.ensures t v w) c.if-replaces.true h i

pub returns-else-replaces-clause-ok : goal.returns-else-replaces-clause-ok
unfolding Merges
returns-else-replaces-clause-ok g c = λ t x y h i.
    let value = g.T.Number.value in
    let a = c.args.a.now in
    let b = c.args.b.now in
    let v = number_or_null value a.value in
    let w = number_or_null value b.value in
    left g.P.Policy.kind t x y a.number b.number v w c.replaces.result (c.replaces.ensures t v w) c.if-replaces.false h i
