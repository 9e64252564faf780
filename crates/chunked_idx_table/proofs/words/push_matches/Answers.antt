use Rattle.std.proofs.Common.{◌<◌, length, arith}
use Rattle.chunked_idx_table.proofs.Kept.{beside_more}
use Rattle.chunked_idx_table.proofs.words.push_matches.Goals as goal

pub loop-word-preserved : goal.loop-word-preserved
loop-word-preserved c =
    let h : c.loop-word._word-index < length c.args.words.now = omega arith in
    record {
      so_far = beside_more c.args.index c.args.words.now _ _ _ c.loop-word._word-index h c.loop-word.invariant.so_far c.push_reserved.ensures.items;
      room = omega arith;
    }
