use Rattle.std.proofs.Common.{sym}
use Rattle.query_check.proofs.FirstPlaces.{by_lists}
use Rattle.query_check.proofs.columns.unknown_column.Goals as goal

-- list by list
pub returns : goal.returns
returns c = rw (
  c.first_of_two.ensures,
  c.first_of_two-place-3.ensures,
  c.first_of_two-place-2.ensures,
  c.first_of_two-place.ensures,
  c.unknown_name-place.ensures.place,
  c.unknown_name.ensures.place,
  c.unknown_operand.ensures.place,
  c.unknown_group.ensures.place,
  c.unknown_reduction.ensures.place,
  c.filter_width.ensures.width,
  c.as_slice-build.ensures,
  c.as_slice-probe.ensures,
  c.as_slice-groups.ensures,
  c.as_slice.ensures,
) (sym (by_lists c.args.query.now))
