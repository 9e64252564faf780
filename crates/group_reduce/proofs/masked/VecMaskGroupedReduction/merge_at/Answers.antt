use Rattle.std.proofs.Math.ListN.{set}
use Rattle.std.proofs.Common.{◌≡◌, Bool, List, ◌||◌, false, get_or, is_some, sym, subst, ap₂, ◌∙◌, arith}
use Rattle.reduce_states.specs.States.{start, merge}
use Rattle.group_reduce.specs.Reducing.{Merges}
use Rattle.group_reduce.specs.Masked.{AreMasked}
use Rattle.group_reduce.proofs.Kept.{found}
use Rattle.group_reduce.proofs.Bits.{is_some-merge, bit_at, masked_set}
use Rattle.group_reduce.proofs.masked.VecMaskGroupedReduction.merge_at.Goals as goal

pub returns-clause-ok : goal.returns-clause-ok
unfolding Merges
returns-clause-ok g c = λ t xs ys h o.
    let R = g.R.Reducer.stands in
    let k = g.R.Reducer.kind in
    let d = start k t in
    let mine = c.args.self.now in
    let theirs = c.args.other.now in
    let p = c.args.g in
    let j = c.args.j in
    let a = found R mine.values.items xs p c.index_mut.result.now d h.stand c.requires.place c.index_mut.ensures.value in
    let b = found R theirs.values.items ys j c.index.result.now d o.stand c.requires.from c.index.ensures in
    let ours = bit_at R mine.values.items mine.mask xs p d h (omega (arith, mine.paired, c.requires.place)) in
    let other = bit_at R theirs.values.items theirs.mask ys j d o (omega (arith, theirs.paired, c.requires.from)) in
    let bit = ap₂ (λ x y. x || y) ours (c.get.ensures ∙ other) ∙ sym (is_some-merge k t (get_or xs p d) (get_or ys j d)) in
    subst (λ (bits : List Bool). AreMasked R (set mine.values.items p c.combine.new.a) bits (set xs p (merge k t (get_or xs p d) (get_or ys j d)))) (sym c.or_pos.ensures)
    (masked_set R mine.values.items mine.mask xs p c.combine.new.a _ (merge k t (get_or xs p d) (get_or ys j d)) h (c.in_ok-combine.ensures.ok t (get_or xs p d) (get_or ys j d) a b) bit)
