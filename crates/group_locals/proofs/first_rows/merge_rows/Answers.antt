use Rattle.std.proofs.Common.{get_or, take, refl, arith}
use Rattle.reduce_states.specs.Moves.{cut_or_filled}
use Rattle.group_locals.specs.Rows.{top}
use Rattle.group_locals.proofs.FirstRows.{length-noted, noted_more}
use Rattle.group_locals.proofs.first_rows.merge_rows.Goals as goal

pub note_row-requires : goal.note_row-requires
note_row-requires c =
    let i = c.loop-i.i in
    let n = length-noted c.args.first_rows.now (take i c.args.group_idxs.now) (take i c.args.others.now) c.loop-i.first_rows c.args.groups c.loop-i.invariant in
    let h = c.requires.places i 0 c.loop-i-test.true in
    omega arith

pub loop-i-preserved : goal.loop-i-preserved
loop-i-preserved c =
    let i = c.loop-i.i in
    let test = c.loop-i-test.true in
    noted_more (cut_or_filled top c.args.first_rows.now c.args.groups) c.args.group_idxs.now c.args.others.now c.loop-i.first_rows c.note_row.new.first_rows i (get_or c.args.group_idxs.now i 0) (get_or c.args.others.now i 0) c.loop-i.invariant test (omega (arith, c.requires.lengths)) refl refl c.note_row.ensures
