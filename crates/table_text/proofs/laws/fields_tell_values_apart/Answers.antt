use Rattle.table_text.proofs.FieldsApart.{apart}
use Rattle.table_text.proofs.laws.fields_tell_values_apart.Goals as goal

pub returns : goal.returns
returns c = apart
