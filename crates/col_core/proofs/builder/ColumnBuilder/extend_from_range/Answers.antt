use Rattle.std.proofs.Common.{◌≡◌, ◌∙◌, take, drop, ap, sym, subst}
use Rattle.std.specs.List.{All}
use Rattle.col_core.specs.declared.data_type.DataType.{DataType}
use Rattle.col_core.specs.Tables.{Growing}
use Rattle.col_core.specs.Values.{Fits}
use Rattle.col_core.proofs.Leaves.{built_more}
use Rattle.col_core.proofs.builder.ColumnBuilder.extend_from_range.Goals as goal

pub invariant_of-self-2 : goal.invariant_of-self-2
invariant_of-self-2 c =
    let source = c.args.source.now in
    let values = take c.args.len (drop c.args.start source.values) in
    let typed : source.dtype ≡ c.self.inside.dtype = c.requires.same_type ∙ ap (λ (g : Growing). g.dtype) (sym c.self.view_is) in
    built_more c.self.inside.dtype c.self.inside.chunk c.append_range.new.target values c.self.invariant c.append_range.ensures.kind c.in_ok-append_range.ensures.ok
    (subst (λ (t : DataType). All (Fits t) values) typed c.append_range.ensures.fits)
