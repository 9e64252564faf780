use Rattle.std.proofs.Common.{◌^◌, ◌<◌, true, subst, sym}
use Rattle.hash_keys.specs.Views.{keys_of}
use Rattle.chunked_idx_table.specs.Tables.{ProbeTable, size_of}
use Rattle.chunked_idx_table.specs.Inserts.{with_chunk}
use Rattle.callers.proofs.Probed.{one_chunk_fits}
use Rattle.callers.proofs.probing.table_of.Goals as goal

pub insert_key_chunk-requires-clause-few : goal.insert_key_chunk-requires-clause-few
insert_key_chunk-requires-clause-few g c =
    subst (λ (t : ProbeTable). size_of (with_chunk true t (keys_of c.args.keys)) < 2 ^ 32) (sym c.in_ok-table.ensures) (one_chunk_fits c.state.result (keys_of c.args.keys) c.requires)
