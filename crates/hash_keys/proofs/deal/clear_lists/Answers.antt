use Rattle.std.proofs.Common.{ℕ, ◌<◌, length, Vec, Global, arith}
use Rattle.hash_keys.proofs.Dealt.{cleared_more}
use Rattle.hash_keys.proofs.deal.clear_lists.Goals as goal

pub loop-list-preserved : goal.loop-list-preserved
loop-list-preserved c =
    let below : c.loop-list.list-index < length c.loop-list.lists = omega arith in
    cleared_more (λ (v : Vec ℕ Global). v.items) c.loop-list.lists c.loop-list.list-index c.clear.new.self below c.clear.ensures.items c.loop-list.invariant
