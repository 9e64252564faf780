use Rattle.join_groups.proofs.GroupTable.{schema_more}
use Rattle.join_groups.proofs.table.group_schema.Goals as goal

pub loop-r-preserved : goal.loop-r-preserved
loop-r-preserved c =
    schema_more c.args.query.now c.args.given.now c.loop-r.fields.items c.push.new.self.items c.as_slice-reduction-items.result.now c.loop-r.r c.reduction-item.result c.index-given-r.result c.in_ok-reduction_name.field-0 c.dtype.result
    c.requires c.as_slice-reduction-items.ensures c.loop-r-test.true c.reduction-item.is c.index-given-r.is c.dtype.ensures.dtype c.in_ok-reduction_name.ensures c.loop-r.invariant c.in_ok-push.ensures.items
