use Rattle.std.proofs.Common.{nat_lt, ap₂, ◌∙◌}
use Rattle.col_core.specs.Values.{is_null}
use Rattle.group_reduce.proofs.Bits.{some_fails}
use Rattle.group_reduce.proofs.masked.has_present.Goals as goal

pub returns : goal.returns
returns c = ap₂ nat_lt c.null_count.ensures c.len.ensures ∙ some_fails is_null c.args.values.now.values
