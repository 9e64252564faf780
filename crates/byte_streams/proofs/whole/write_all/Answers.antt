use Rattle.std.proofs.Common.{arith, length-drop, ◌∙◌}
use Rattle.std.proofs.lemmas.List.{take_rest}
use Rattle.byte_streams.proofs.Known.{grown_more}
use Rattle.byte_streams.proofs.whole.write_all.Goals as goal

pub loop-written-preserved : goal.loop-written-preserved
loop-written-preserved g c =
    let held = g.K.Sink.held in
    let took = rw take_rest at c.in-Took.ensures.took in
    record {
      so_far = grown_more (held c.args.sink.now) (held c.loop-written.sink) (held c.write.new.self) c.args.bytes.now c.loop-written.written c.in-Took.count
          c.loop-written.invariant.so_far took.2;
      within = omega (arith, took.1, length-drop c.loop-written.written c.args.bytes.now);
      sound = c.in-Took.ensures.counted ∙ c.loop-written.invariant.sound;
    }
