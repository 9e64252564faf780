use Rattle.std.proofs.Common.{◌≡◌, true}
use Rattle.reduce_states.specs.States.{present}
use Rattle.kept_values.specs.Kept.{bytes_or_null}
use Rattle.kept_values.proofs.Masked.{finished_plain, finished_masked}
use Rattle.reduce_min_max.proofs.Best.{given_some, given_none}
use Rattle.reduce_min_max.proofs.bytes.BinaryReducerReducer.finish.Goals as goal

pub returns-clause-plain : goal.returns-clause-plain
returns-clause-plain g c =
    finished_plain (λ s. s.values) c.finished_column.result (λ v x. x ≡ present (bytes_or_null v)) true bytes_or_null c.args.v.now c.args.m (λ b. b.now)
    (λ v e h. given_some (bytes_or_null v) e h) (λ v t h. given_none (bytes_or_null v) h) c.finished_column.ensures.values

pub returns-clause-masked : goal.returns-clause-masked
returns-clause-masked g c =
    finished_masked (λ s. s.values) c.finished_column.result (λ v x. x ≡ present (bytes_or_null v)) true bytes_or_null c.args.v.now c.args.m (λ b. b.now)
    (λ v e h. given_some (bytes_or_null v) e h) (λ v t h. given_none (bytes_or_null v) h) c.finished_column.ensures.values c.requires.mask
