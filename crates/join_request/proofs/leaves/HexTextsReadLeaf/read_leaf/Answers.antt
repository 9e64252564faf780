use Rattle.std.proofs.Common.{sym, subst}
use Rattle.col_core.specs.declared.data_type.DataType.{DataType}
use Rattle.col_core.specs.Values.{AreBytesOf}
use Rattle.join_request.proofs.leaves.HexTextsReadLeaf.read_leaf.Goals as goal

pub push_ref-requires-2 : goal.push_ref-requires-2
push_ref-requires-2 c = subst (λ (t : DataType). AreBytesOf t c.small_bytes.result.now) (sym c.requires) c.small_bytes.ensures.small
