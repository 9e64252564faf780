use Rattle.col_arrays.proofs.Items.{lent_bits}
use Rattle.col_arrays.proofs.primitive.PrimitiveArray.validity.Goals as goal

pub returns : goal.returns
returns g c = rw (← c.self.view_is) (lent_bits c.self.inside.stored.items c.self.inside.validity c.bits.result c.self.invariant.0 c.bits.ensures)
