use Rattle.join_pairs.proofs.mask.compare_stored_with.Goals as goal

pub returns-in-Eq : goal.returns-in-Eq
returns-in-Eq g c = rw c.in-Eq.is c.tot_eq_kernel_broadcast.ensures

pub returns-in-Ne : goal.returns-in-Ne
returns-in-Ne g c = rw c.in-Ne.is c.tot_ne_kernel_broadcast.ensures

pub returns-in-Lt : goal.returns-in-Lt
returns-in-Lt g c = rw c.in-Lt.is c.tot_lt_kernel_broadcast.ensures

pub returns-in-Le : goal.returns-in-Le
returns-in-Le g c = rw c.in-Le.is c.tot_le_kernel_broadcast.ensures

pub returns-in-Gt : goal.returns-in-Gt
returns-in-Gt g c = rw c.in-Gt.is c.tot_gt_kernel_broadcast.ensures

pub returns-in-Ge : goal.returns-in-Ge
returns-in-Ge g c = rw c.in-Ge.is c.tot_ge_kernel_broadcast.ensures
