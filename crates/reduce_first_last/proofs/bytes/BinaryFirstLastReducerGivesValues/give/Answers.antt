use Rattle.std.proofs.Common.{ap, ◌∙◌}
use Rattle.col_core.specs.Lent.{lent_leaf}
use Rattle.col_core.specs.Values.{is_text}
use Rattle.kept_values.proofs.Types.{bytes_fit}
use Rattle.reduce_first_last.proofs.bytes.BinaryFirstLastReducerGivesValues.give.Goals as goal

pub returns-else-kept-eq0-clause-fits : goal.returns-else-kept-eq0-clause-fits
returns-else-kept-eq0-clause-fits g c = λ t h.
    bytes_fit t (lent_leaf c.lend_bytes.result) h.0 (ap (is_text t) c.lend_bytes.ensures.value ∙ h.1) c.lend_bytes.ensures.kept
