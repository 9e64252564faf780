use Rattle.join_generator.specs.Generated.{build_fields, build_id, build_group}
use Rattle.join_generator.proofs.Rows.{frame_is}
use Rattle.join_generator.proofs.columns.build_frame.Goals as goal

pub returns-clause-frame : goal.returns-clause-frame
returns-clause-frame c =
    let numbers = c.in_ok-numbers.numbers in
    frame_is c.number_frame.result build_fields build_id build_group c.args.n numbers.ids.items numbers.others.items c.in_ok-numbers.ensures.ids c.in_ok-numbers.ensures.groups c.number_frame.ensures.schema c.number_frame.ensures.rows
