use Rattle.std.proofs.Common.{sym, ◌∙◌}
use Rattle.col_core.proofs.Texts.{no_bad_bytes, no_bad_text}
use Rattle.col_core.proofs.chunk.Chunk.has_invalid_utf8.Goals as goal

pub returns-else-same_type : goal.returns-else-same_type
returns-else-same_type c = rw c.in-Bytes.is (c.if-same_type.false ∙ sym (no_bad_bytes c.args.dtype c.in-Bytes.items (sym c.same_type.ensures ∙ c.if-same_type.false)))

pub returns-in_default : goal.returns-in_default
returns-in_default c = sym (no_bad_text c.args.dtype c.args.self.now c.in_default.not-Bytes)
