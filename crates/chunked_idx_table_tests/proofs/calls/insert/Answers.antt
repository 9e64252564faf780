use Rattle.hash_keys.specs.Views.{keys_of}
use Rattle.chunked_idx_table_tests.proofs.Room.{chunk_fits}
use Rattle.chunked_idx_table_tests.proofs.calls.insert.Goals as goal

pub insert_key_chunk-requires-clause-few : goal.insert_key_chunk-requires-clause-few
insert_key_chunk-requires-clause-few g c = chunk_fits _ _ (keys_of c.in_ok-keys.keys) (c.has_room.ensures c.if-not-has_room.false) c.in_ok-keys.ensures.keys
