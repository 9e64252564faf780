use Rattle.std.proofs.Common.{◌≡◌, ◌≤◌, length, sym, subst, arith}
use Rattle.std.specs.List.{AllZip}
use Rattle.reduce_states.specs.States.{start}
use Rattle.reduce_states.specs.Moves.{cut_or_filled}
use Rattle.reduce_states.proofs.Merged.{start-plain}
use Rattle.reduce_states.proofs.Moved.{cut_or_filled-cut}
use Rattle.group_reduce.specs.Zips.{AllZip-length}
use Rattle.group_reduce.specs.Masked.{AreMasked}
use Rattle.group_reduce.proofs.Kept.{AllZip-take}
use Rattle.group_reduce.proofs.Bits.{masked_resized}
use Rattle.group_reduce.proofs.masked.VecMaskGroupedReductionGroupedReduction.resize.Goals as goal

pub returns-then-wanted-held-clause-ok : goal.returns-then-wanted-held-clause-ok
returns-then-wanted-held-clause-ok g c = λ xs h.
    let R = g.R.Reducer.stands in
    let k = g.R.Reducer.kind in
    let mine = c.args.self.now in
    let t = mine.in_dtype in
    let n = c.args.num_groups in
    let vs = mine.values.items in
    let long = AllZip-length R vs xs h.stand in
    let stand : AllZip R c.truncate.new.self.items (cut_or_filled (start k t) xs n) = rw (c.truncate.ensures.items, cut_or_filled-cut (start k t) xs n (omega arith)) (AllZip-take R n vs xs h.stand) in
    subst (λ bits. AreMasked R c.truncate.new.self.items bits (cut_or_filled (start k t) xs n)) (sym c.in_ok-resize.ensures.ok)
    (masked_resized R k t vs c.truncate.new.self.items mine.mask xs n (start-plain k t g.met.R.Reducer.plain) stand h.tell)

pub returns-clause-ok : goal.returns-clause-ok
returns-clause-ok g c = λ xs h.
    let R = g.R.Reducer.stands in
    let k = g.R.Reducer.kind in
    let mine = c.args.self.now in
    let t = mine.in_dtype in
    let n = c.args.num_groups in
    let room : AllZip R c.reserve.new.self.items xs = subst (λ us. AllZip R us xs) (sym c.in_ok-reserve.ensures.items) h.stand in
    subst (λ bits. AreMasked R c.fill_values.new.kept.items bits (cut_or_filled (start k t) xs n)) (sym c.in_ok-resize-2.ensures.ok)
    (masked_resized R k t mine.values.items c.fill_values.new.kept.items mine.mask xs n (start-plain k t g.met.R.Reducer.plain) (c.fill_values.ensures.ok t xs room) h.tell)
