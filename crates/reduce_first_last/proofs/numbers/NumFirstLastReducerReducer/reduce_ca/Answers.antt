use Rattle.std.proofs.Common.{◌≡◌, ◌<◌, length, ap, ◌∙◌, arith}
use Rattle.std.proofs.lemmas.Result.{on_ok_weaker}
use Rattle.kept_values.specs.Kept.{number_or_null}
use Rattle.reduce_first_last.specs.Numbers.{kept_place, numbered_state}
use Rattle.group_reduce.specs.Reducing.{TakesAll}
use Rattle.reduce_first_last.proofs.Numbering.{all_by_one, after_nothing}
use Rattle.reduce_first_last.proofs.numbers.NumFirstLastReducerReducer.reduce_ca.Goals as goal

pub returns-then-len-eq0-clause-ok : goal.returns-then-len-eq0-clause-ok
unfolding TakesAll
returns-then-len-eq0-clause-ok g c = λ t n x e h.
    after_nothing g.P.Policy.kind t n x c.args.ca.now.values (omega (arith, c.len-len.ensures)) ∙ h

pub returns-clause-ok : goal.returns-clause-ok
returns-clause-ok g c =
    let value = g.T.Number.value in
    let vs = c.args.ca.now.values in
    let some : 0 < length vs = omega (arith, c.len-len.ensures, c.if-len-eq0.false) in
    let place = c.index.ensures ∙ ap (kept_place g.P.Policy.kind) c.len-len.ensures in
    on_ok_weaker c.reduce_at.result (all_by_one (λ v x. x ≡ numbered_state v.number (number_or_null value v.value)) g.P.Policy.kind c.args.seq_id c.index.result vs c.args.v.now c.reduce_at.new.a g.met.P.Policy.kind_law some place) c.reduce_at.ensures.ok
