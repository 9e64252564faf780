use Rattle.std.proofs.Common.{Bool, true, arith}
use Rattle.std.proofs.lemmas.List.{length-replicate}
use Rattle.lane_kernels.proofs.Places.{pushed_repeated}
use Rattle.lane_kernels.proofs.if_then_else.RepeatedSide.push_item.Goals as goal

pub returns : goal.returns
returns g c =
    let all = c.args.self.now in
    let item : g.row.T.Denot × Bool = (all.value, true) in
    pushed_repeated c.push.result c.args.out.now c.push.new.self all.len c.args.i item (omega (arith, length-replicate all.len item)) c.push.ensures.ok
