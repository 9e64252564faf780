use Rattle.std.proofs.Common.{length, get_or, take, refl, sym, ◌∙◌, arith}
use Rattle.std.specs.List.{range_with_len}
use Rattle.std.proofs.lemmas.List.FromFn.{get_or-range_with_len, length-range_with_len}
use Rattle.reduce_states.specs.Moves.{cut_or_filled}
use Rattle.group_locals.specs.Rows.{top}
use Rattle.group_locals.proofs.FirstRows.{length-noted, noted_all, noted_more}
use Rattle.group_locals.proofs.first_rows.note_rows.Goals as goal

pub note_row-requires : goal.note_row-requires
note_row-requires c =
    let i = c.loop-group.group-index in
    let gs = c.args.group_idxs.now in
    let n = length-noted c.args.first_rows.now (take i gs) (take i (range_with_len c.args.first_row (length gs))) c.loop-group.first_rows c.args.groups c.loop-group.invariant.so_far in
    let h = c.requires.places i 0 c.loop-group-test.true in
    omega arith

pub loop-group-preserved : goal.loop-group-preserved
loop-group-preserved c =
    let i = c.loop-group.group-index in
    let gs = c.args.group_idxs.now in
    let first = c.args.first_row in
    let test = c.loop-group-test.true in
    let long = length-range_with_len first (length gs) in
    record {
      row_is = omega (arith, c.loop-group.invariant.row_is);
      so_far = noted_more (cut_or_filled top c.args.first_rows.now c.args.groups) gs (range_with_len first (length gs)) c.loop-group.first_rows c.note_row.new.first_rows i (get_or gs i 0) c.loop-group.row c.loop-group.invariant.so_far test (omega arith) refl (c.loop-group.invariant.row_is ∙ sym (get_or-range_with_len first (length gs) i 0 test)) c.note_row.ensures;
    }

pub returns : goal.returns
returns c =
    let gs = c.args.group_idxs.now in
    let long = length-range_with_len c.args.first_row (length gs) in
    noted_all (cut_or_filled top c.args.first_rows.now c.args.groups) gs (range_with_len c.args.first_row (length gs)) c.loop-group.first_rows c.loop-group.group-index c.loop-group.invariant.so_far c.loop-group-test.false (omega arith)
