use Rattle.std.proofs.Math.ListN.{set}
use Rattle.std.proofs.Common.{◌≡◌, Bool, List, ◌||◌, get_or, is_some, refl, sym, subst, ap₂, ◌∙◌, arith}
use Rattle.reduce_states.specs.States.{start, after}
use Rattle.reduce_states.specs.Moves.{numbered}
use Rattle.group_reduce.specs.Reducing.{TakesAll}
use Rattle.group_reduce.specs.Masked.{AreMasked}
use Rattle.group_reduce.proofs.Kept.{found}
use Rattle.group_reduce.proofs.Bits.{is_some-after, bit_at, masked_set}
use Rattle.group_reduce.proofs.masked.VecMaskGroupedReductionGroupedReduction.update_group.Goals as goal

pub returns-clause-ok : goal.returns-clause-ok
unfolding TakesAll
returns-clause-ok g c = λ xs h.
    let R = g.R.Reducer.stands in
    let k = g.R.Reducer.kind in
    let mine = c.args.self.now in
    let t = mine.in_dtype in
    let d = start k t in
    let p = c.args.group_idx in
    let vs = c.args.values.now.values in
    let n = c.args.seq_id in
    let a = found R mine.values.items xs p c.index_mut.result.now d h.stand c.requires.place c.index_mut.ensures.value in
    let ours = bit_at R mine.values.items mine.mask xs p d h (omega (arith, mine.paired, c.requires.place)) in
    let bit = ap₂ (λ x y. x || y) ours c.has_present.ensures ∙ sym (is_some-after k t n (get_or xs p d) vs mine.skips) in
    subst (λ (bits : List Bool). AreMasked R (set mine.values.items p c.reduce_ca.new.v) bits (set xs p (after k t (get_or xs p d) (numbered n vs)))) (sym c.or_pos.ensures)
    (masked_set R mine.values.items mine.mask xs p c.reduce_ca.new.v _ (after k t (get_or xs p d) (numbered n vs)) h (c.in_ok-reduce_ca.ensures.ok t n (get_or xs p d) refl a) bit)
