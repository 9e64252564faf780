use Rattle.join_groups.proofs.WholeOrders.{not_whole, whole_once}
use Rattle.join_groups.proofs.orders.order_is_whole.Goals as goal

pub returns-then-are_below : goal.returns-then-are_below
returns-then-are_below c = whole_once c.args.count c.args.order.now c.are_below.result c.stand_once.result c.are_below.ensures c.stand_once.ensures c.if-are_below.true

pub returns-else-are_below : goal.returns-else-are_below
returns-else-are_below c = not_whole c.args.count c.args.order.now c.are_below.result c.are_below.ensures c.if-are_below.false
