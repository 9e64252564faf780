use Rattle.col_arrays.proofs.Items.{lent_bits}
use Rattle.col_arrays.proofs.boolean.BooleanArray.validity.Goals as goal

pub returns : goal.returns
returns c = rw (← c.self.view_is) (lent_bits c.self.inside.stored c.self.inside.validity c.bits.result c.self.invariant c.bits.ensures)
