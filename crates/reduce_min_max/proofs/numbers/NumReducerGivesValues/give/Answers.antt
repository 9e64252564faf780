use Rattle.col_core.specs.Lent.{lent_leaf}
use Rattle.kept_values.proofs.Types.{number_fits}
use Rattle.reduce_min_max.proofs.numbers.NumReducerGivesValues.give.Goals as goal

pub returns-clause-fits : goal.returns-clause-fits
returns-clause-fits g c = λ t s.
    number_fits g.R.Elem.ColumnNumber.physical g.R.Elem.Number.fits t (lent_leaf c.lend_number.result) g.met.R.Elem.ColumnNumber.kept_law s c.lend_number.ensures.kept
