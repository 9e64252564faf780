use Rattle.std.proofs.Common.{sym, ◌∙◌}
use Rattle.byte_streams.specs.Faults.{Rose}
use Rattle.join_command.specs.Commands.{command_of}
use Rattle.join_command.specs.Errors.{status_of}
use Rattle.join_command.proofs.Told.{Says, replied, complete, rose_at}
use Rattle.join_command.proofs.run.run_tool.Goals as goal

pub returns-in-Err-clause-replied : goal.returns-in-Err-clause-replied
returns-in-Err-clause-replied g c =
    let run = c.in-Err.ensures in
    let left = g.S.Source.left in
    let faults = g.S.Source.faults in
    let before = left c.args.source.now in
    let now = left c.run_command.new.source in
    let command = command_of c.args.words.now in
    let says : Says c.in-Err.e command before now (faults c.args.source.now) (faults c.run_command.new.source) = record {
      usage = run.usage.0;
      faults = run.read_faults;
      taken = run.taken;
      refused = run.refused;
      front = λ seven. let a = run.front seven in (a.text, a.answered);
    } in
    rw c.report.ensures.status (replied c.in-Err.e command before now (faults c.args.source.now) (faults c.run_command.new.source) says)

pub returns-in-Err-clause-complete : goal.returns-in-Err-clause-complete
returns-in-Err-clause-complete g c =
    let faults = g.S.Source.faults in
    let before = g.O.Sink.faults c.args.out.now in
    let now = g.O.Sink.faults c.run_command.new.out in
    complete c.report.result (command_of c.args.words.now) (g.S.Source.left c.args.source.now) (faults c.args.source.now) (faults c.run_command.new.source) (Rose before now)
    (λ seven. rose_at before now (status_of c.in-Err.e) c.in-Err.ensures.write_faults (sym c.report.ensures.status ∙ seven))
    (returns-in-Err-clause-replied g c)
