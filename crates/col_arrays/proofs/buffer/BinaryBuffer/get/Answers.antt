use Rattle.std.proofs.Common.{◌≡◌, ◌+◌, get_or, arith}
use Rattle.std.proofs.lemmas.Grind.{common_steps}
use Rattle.col_arrays.proofs.Offsets.{cut_at}
use Rattle.col_arrays.proofs.buffer.BinaryBuffer.get.Goals as goal

pub index-requires : goal.index-requires
index-requires c =
    let cut = cut_at c.self.inside.bytes.items c.self.inside.offsets.items c.args.self.now c.args.i c.self.invariant c.self.view_is c.requires in
    grind (arith, common_steps, cut.kept)

pub overflow_add-i : goal.overflow_add-i
overflow_add-i c =
    let cut = cut_at c.self.inside.bytes.items c.self.inside.offsets.items c.args.self.now c.args.i c.self.invariant c.self.view_is c.requires in
    grind (arith, common_steps, cut.kept)

pub index-requires-2 : goal.index-requires-2
index-requires-2 c =
    let cut = cut_at c.self.inside.bytes.items c.self.inside.offsets.items c.args.self.now c.args.i c.self.invariant c.self.view_is c.requires in
    grind (arith, common_steps, cut.kept)

pub slice_bounds-result-count : goal.slice_bounds-result-count
slice_bounds-result-count c =
    let cut = cut_at c.self.inside.bytes.items c.self.inside.offsets.items c.args.self.now c.args.i c.self.invariant c.self.view_is c.requires in
    grind (arith, common_steps, cut.kept, cut.up, c.index.ensures, c.index-2.ensures)

pub slice_bounds-result-start : goal.slice_bounds-result-start
slice_bounds-result-start c =
    let cut = cut_at c.self.inside.bytes.items c.self.inside.offsets.items c.args.self.now c.args.i c.self.invariant c.self.view_is c.requires in
    grind (arith, common_steps, cut.kept, cut.up, c.index.ensures, c.index-2.ensures)

pub slice_bounds-result-end : goal.slice_bounds-result-end
slice_bounds-result-end c =
    let cut = cut_at c.self.inside.bytes.items c.self.inside.offsets.items c.args.self.now c.args.i c.self.invariant c.self.view_is c.requires in
    grind (arith, common_steps, cut.kept, cut.within, c.index-2.ensures)

pub returns : goal.returns
returns c =
    let cut = cut_at c.self.inside.bytes.items c.self.inside.offsets.items c.args.self.now c.args.i c.self.invariant c.self.view_is c.requires in
    let first : c.index.result.now ≡ get_or c.self.inside.offsets.items c.args.i 0 = grind (arith, common_steps, cut.kept, c.index.ensures) in
    let next : c.index-2.result.now ≡ get_or c.self.inside.offsets.items (c.args.i + 1) 0 = grind (arith, common_steps, cut.kept, c.index-2.ensures) in
    rw (first, next, c.deref.ensures.value) cut.cut
