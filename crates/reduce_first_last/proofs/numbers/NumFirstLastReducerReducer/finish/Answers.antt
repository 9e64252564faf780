use Rattle.std.proofs.Common.{◌≡◌, true}
use Rattle.reduce_states.specs.States.{out}
use Rattle.kept_values.specs.Kept.{number_or_null}
use Rattle.kept_values.proofs.Masked.{finished_plain, finished_masked}
use Rattle.reduce_first_last.specs.Numbers.{numbered_state}
use Rattle.reduce_first_last.proofs.Numbering.{given_some, given_none}
use Rattle.reduce_first_last.proofs.numbers.NumFirstLastReducerReducer.finish.Goals as goal

pub returns-clause-plain : goal.returns-clause-plain
returns-clause-plain g c =
    let value = g.T.Number.value in
    finished_plain (λ s. s.values) c.finished_column.result (λ v x. x ≡ numbered_state v.number (number_or_null value v.value)) true (λ v. out (numbered_state v.number (number_or_null value v.value))) c.args.v.now c.args.m (λ b. b.now)
    (λ v e h. given_some v.number (number_or_null value v.value) e h) (λ v t h. given_none v.number (number_or_null value v.value) h) c.finished_column.ensures.values

pub returns-clause-masked : goal.returns-clause-masked
returns-clause-masked g c =
    let value = g.T.Number.value in
    finished_masked (λ s. s.values) c.finished_column.result (λ v x. x ≡ numbered_state v.number (number_or_null value v.value)) true (λ v. out (numbered_state v.number (number_or_null value v.value))) c.args.v.now c.args.m (λ b. b.now)
    (λ v e h. given_some v.number (number_or_null value v.value) e h) (λ v t h. given_none v.number (number_or_null value v.value) h) c.finished_column.ensures.values c.requires.mask
