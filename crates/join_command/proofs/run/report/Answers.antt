use Rattle.join_command.proofs.Told.{writes_line, faults_counted}
use Rattle.join_command.proofs.run.report.Goals as goal

pub returns-clause-line : goal.returns-clause-line
returns-clause-line g c =
    let held = g.E.Sink.held in
    let faults = g.E.Sink.faults in
    let written = rw (c.as_bytes.ensures.value, c.as_str.ensures.value, c.line.ensures) at c.write_all.ensures in
    writes_line (held c.args.errors.now) (held c.write_all.new.sink) (faults c.args.errors.now) (faults c.write_all.new.sink) _ c.write_all.result written.whole written.front (faults_counted _ _ c.write_all.result written.counted)
