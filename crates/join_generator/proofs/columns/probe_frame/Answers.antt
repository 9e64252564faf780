use Rattle.std.proofs.Common.{◌*◌}
use Rattle.join_generator.specs.Generated.{probe_fields, probe_id, probe_amount}
use Rattle.join_generator.proofs.Rows.{frame_is}
use Rattle.join_generator.proofs.columns.probe_frame.Goals as goal

pub returns : goal.returns
returns c =
    let n = c.args.n in
    let numbers = c.in_ok-numbers.numbers in
    frame_is c.number_frame.result probe_fields (probe_id n) (probe_amount n) (4 * n) numbers.ids.items numbers.others.items c.in_ok-numbers.ensures.ids c.in_ok-numbers.ensures.amounts c.number_frame.ensures.schema c.number_frame.ensures.rows
