use Rattle.std.proofs.Common.{length, sym, ap, ◌∙◌}
use Rattle.std.proofs.lemmas.List.{length-replicate}
use Rattle.col_core.specs.declared.leaf.Leaf.TheVariants as leaves
use Rattle.col_core.specs.Tables.{Column}
use Rattle.group_reduce.proofs.NullStates.{null_outs, null_type}
use Rattle.group_reduce.proofs.nulls.NullGroupedReductionGroupedReduction.finalize.Goals as goal

pub returns-clause-dtype : goal.returns-clause-dtype
returns-clause-dtype c = ap (λ (s : Column). s.dtype) c.in_ok-column.ensures ∙ sym (null_type c.args.self.now.dtype c.args.self.now.bytes)

pub returns-clause-rows : goal.returns-clause-rows
returns-clause-rows c = ap (λ (s : Column). length s.values) c.in_ok-column.ensures ∙ length-replicate c.args.self.now.groups leaves.Null

pub returns-clause-ok : goal.returns-clause-ok
returns-clause-ok c = λ xs h. ap (λ (s : Column). s.values) c.in_ok-column.ensures ∙ null_outs c.args.self.now.dtype c.args.self.now.groups xs c.args.self.now.bytes h
