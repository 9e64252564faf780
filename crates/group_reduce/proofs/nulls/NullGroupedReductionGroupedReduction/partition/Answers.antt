use Rattle.std.proofs.Common.{◌≡◌, ℕ, slice_index_or, replicate, sym, ap, ◌∙◌, arith}
use Rattle.group_parts.specs.Parts.{dealt}
use Rattle.reduce_model.specs.declared.kind.ReductionKind.TheVariants.{Sum}
use Rattle.reduce_states.specs.States.{start}
use Rattle.group_reduce.proofs.NullStates.{dealt-replicate}
use Rattle.group_reduce.proofs.Kept.{weaker_place, same_part}
use Rattle.group_reduce.proofs.nulls.NullGroupedReductionGroupedReduction.partition.Goals as goal

pub returns-clause-shapes : goal.returns-clause-shapes
returns-clause-shapes c = λ p lt.
    weaker_place c.loop-n.parts.items p (λ r. (r.groups ≡ slice_index_or c.args.partition_sizes.now p 0) × (r.dtype ≡ c.args.self.dtype)) _ (c.loop-n.invariant.parts p (omega arith))
    (λ r h. same_part Sum r.dtype c.args.self.dtype _ r.groups (slice_index_or c.args.partition_sizes.now p 0) 5 h.1 h.0)

pub returns-clause-ok : goal.returns-clause-ok
returns-clause-ok c = λ xs h p lt.
    let is = c.args._partition_idxs.now in
    let t = c.args.self.dtype in
    let part : dealt p is xs ≡ replicate (slice_index_or c.args.partition_sizes.now p 0) (start Sum t) =
    ap (dealt p is) h ∙ dealt-replicate p is c.args.self.groups (start Sum t) c.requires.lengths ∙ ap (λ (n : ℕ). replicate n (start Sum t)) (sym (c.requires.sizes.exact p lt)) in
    weaker_place c.loop-n.parts.items p (λ r. (r.groups ≡ slice_index_or c.args.partition_sizes.now p 0) × (r.dtype ≡ c.args.self.dtype)) _ (c.loop-n.invariant.parts p (omega arith))
    (λ r h. part ∙ ap (λ (n : ℕ). replicate n (start Sum t)) (sym h.0) ∙ ap (λ u. replicate r.groups (start Sum u)) (sym h.1))
