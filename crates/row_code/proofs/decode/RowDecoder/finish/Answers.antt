use Rattle.std.proofs.Common.{List, sym, subst}
use Rattle.std.specs.List.{All}
use Rattle.col_arrays.specs.Items.{stored}
use Rattle.col_core.specs.declared.schema.Field.{Field}
use Rattle.row_code.specs.Spelling.{IsSpelling}
use Rattle.row_code.proofs.decode.RowDecoder.finish.Goals as goal

pub read_columns-requires : goal.read_columns-requires
read_columns-requires c = subst (λ (fields : List Field). All (IsSpelling fields) (stored c.self.inside.taken)) (sym c.fields.ensures) c.self.invariant
