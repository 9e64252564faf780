use Rattle.std.proofs.Common.{sym, subst, bytes_eq}
use Rattle.list_laws.specs.Distinct.{NoRepeat}
use Rattle.chunked_idx_table.specs.Tables.{AreDistinct, HavePositions}
use Rattle.chunked_idx_table.proofs.Marks.{keys_seen, have_positions}
use Rattle.chunked_idx_table.proofs.row_encoded.RowEncodedChunkedIdxTableChunkedIdxTable.num_keys.Goals as goal

pub returns-clause-distinct : goal.returns-clause-distinct
returns-clause-distinct c = subst AreDistinct c.self.view_is (subst (NoRepeat bytes_eq) (sym (keys_seen c.self.inside.known.entries)) c.len.ensures.distinct)

pub returns-clause-some : goal.returns-clause-some
returns-clause-some c = subst HavePositions c.self.view_is (have_positions c.self.inside.random_state c.self.inside.known.entries c.self.invariant.keys)
