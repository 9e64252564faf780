use Rattle.std.proofs.lemmas.Result.{IfOk-weaker}
use Rattle.join_groups.proofs.Spelled.{decoded_fit, decoded_schema, decoded_spelled}
use Rattle.join_groups.proofs.table.key_rows.Goals as goal

pub returns-clause-schema : goal.returns-clause-schema
returns-clause-schema c = IfOk-weaker c.get_keys_in_group_order.result _ _ (λ f h. decoded_schema c.args.grouper.now.schema c.args.grouper.now.keys f c.num_groups-count.ensures.spelled h) c.get_keys_in_group_order.ensures

pub returns-clause-fit : goal.returns-clause-fit
returns-clause-fit c = IfOk-weaker c.get_keys_in_group_order.result _ _ (λ f h. decoded_fit c.args.grouper.now.schema c.args.grouper.now.keys f c.num_groups-count.ensures.spelled h) c.get_keys_in_group_order.ensures

pub returns-clause-spelled : goal.returns-clause-spelled
returns-clause-spelled c = IfOk-weaker c.get_keys_in_group_order.result _ _ (λ f h. decoded_spelled c.args.grouper.now.schema c.args.grouper.now.keys f c.num_groups-count.ensures.spelled h) c.get_keys_in_group_order.ensures
