use Rattle.std.proofs.Common.{refl}
use Rattle.std.proofs.lemmas.List.{take_all}
use Rattle.col_core.proofs.gather.gather_arrays.Goals as goal

pub returns-clause-values : goal.returns-clause-values
returns-clause-values g c =
    rw (c.into_chunk.ensures.values, c.in_ok-gather_items.ensures, c.deref.ensures.value, c.loop-chunk.invariant, take_all c.loop-chunk.chunk-index c.args.chunks.now c.loop-chunk-test.false) refl
