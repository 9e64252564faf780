use Rattle.std.proofs.Common.{◌<◌, length, arith}
use Rattle.join_probes.proofs.BuildFrames.{keys_more, spelled_more, states_more}
use Rattle.join_probes.proofs.built.build_keys.Goals as goal

pub loop-frame-preserved : goal.loop-frame-preserved
loop-frame-preserved c =
    let q = c.args.query.now in
    let build = c.args.build.now in
    let i = c.loop-frame.frame-index in
    let frame = c.frame-item.result in
    let names = c.as_slice-names.result.now in
    let keys = c.in_ok-side_keys.field-0 in
    let inside : i < length build = omega arith in
    record {
      keys = keys_more q build i frame names c.push.new.self.items c.loop-frame.keys.items keys c.frame-item.is inside c.as_slice-names.ensures c.in_ok-push.ensures.items c.loop-frame.invariant.keys c.in_ok-side_keys.ensures.keys;
      state = states_more c.args.state c.push.new.self.items c.loop-frame.keys.items keys c.in_ok-push.ensures.items c.loop-frame.invariant.state c.in_ok-side_keys.ensures.state;
      spelled = spelled_more q build i frame names c.frame-item.is inside c.as_slice-names.ensures c.loop-frame.invariant.spelled c.in_ok-side_keys.ensures.spelled;
    }
