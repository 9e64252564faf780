use Rattle.reduce_states.proofs.Merged.{merge-assoc}
use Rattle.reduce_states.proofs.laws.merging_is_associative.Goals as goal

pub returns : goal.returns
returns c = λ k t x y z. merge-assoc k t x y z
