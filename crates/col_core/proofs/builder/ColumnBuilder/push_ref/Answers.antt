use Rattle.std.proofs.Common.{ap, sym, subst}
use Rattle.col_core.specs.declared.data_type.DataType.{DataType}
use Rattle.col_core.specs.Lent.{lent_leaf}
use Rattle.col_core.specs.Tables.{Growing}
use Rattle.col_core.specs.Values.{Fits}
use Rattle.col_core.proofs.Leaves.{built_push}
use Rattle.col_core.proofs.builder.ColumnBuilder.push_ref.Goals as goal

pub invariant_of-self-2 : goal.invariant_of-self-2
invariant_of-self-2 c =
    let fits = subst (λ (t : DataType). Fits t (lent_leaf c.args.value)) (ap (λ (g : Growing). g.dtype) (sym c.self.view_is)) c.requires in
    built_push c.self.inside.dtype c.self.inside.chunk c.push_ref.new.self (lent_leaf c.args.value) c.self.invariant c.push_ref.ensures.kind c.in_ok-push_ref.ensures.ok fits
