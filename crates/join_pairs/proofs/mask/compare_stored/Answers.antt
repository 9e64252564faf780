use Rattle.std.proofs.Common.{◌≡◌, ◌∙◌, Bool, not, refl, int_lt}
use Rattle.std.proofs.lemmas.Result.{IfOk-weaker}
use Rattle.col_arrays.specs.Items.{stored}
use Rattle.join_pairs.proofs.Masks.{turned}
use Rattle.join_pairs.proofs.mask.compare_stored.Goals as goal

pub returns-in-Eq : goal.returns-in-Eq
returns-in-Eq g c = rw c.in-Eq.is c.tot_eq_kernel.ensures

pub returns-in-Ne : goal.returns-in-Ne
returns-in-Ne g c = rw c.in-Ne.is c.tot_ne_kernel.ensures

pub returns-in-Lt : goal.returns-in-Lt
returns-in-Lt g c = rw c.in-Lt.is c.tot_lt_kernel.ensures

pub returns-in-Le : goal.returns-in-Le
returns-in-Le g c = rw c.in-Le.is c.tot_le_kernel.ensures

-- the operands in turn
pub returns-in-Gt : goal.returns-in-Gt
returns-in-Gt g c =
    let value = g.T.Number.value in
    rw c.in-Gt.is (IfOk-weaker c.tot_lt_kernel-in-Gt.result _ _ (λ bits h. h ∙ turned (λ x y. int_lt (value x) (value y)) (λ x y. int_lt (value y) (value x)) (λ x y. refl) (stored c.args.right.now) (stored c.args.left.now)) c.tot_lt_kernel-in-Gt.ensures)

pub returns-in-Ge : goal.returns-in-Ge
returns-in-Ge g c =
    let value = g.T.Number.value in
    rw c.in-Ge.is (IfOk-weaker c.tot_le_kernel-in-Ge.result _ _ (λ bits h. h ∙ turned (λ x y. not (int_lt (value y) (value x))) (λ x y. not (int_lt (value x) (value y))) (λ x y. refl) (stored c.args.right.now) (stored c.args.left.now)) c.tot_le_kernel-in-Ge.ensures)
