use Rattle.std.proofs.Common.{subst}
use Rattle.std.specs.List.{All}
use Rattle.col_arrays.specs.Buffer.{AreBytes, opened}
use Rattle.col_arrays.proofs.Offsets.{bytes-items}
use Rattle.col_arrays.proofs.buffer.BinaryBuffer.len.Goals as goal

pub returns-clause-bytes : goal.returns-clause-bytes
returns-clause-bytes c =
    subst (All AreBytes) c.self.view_is
    (bytes-items c.self.inside.bytes.items (opened c.self.inside.offsets.items) (subst AreBytes c.deref.ensures.value c.know_bytes.ensures))
