use Rattle.std.proofs.Common.{◌≡◌, length, ap, sym, ◌∙◌, rules, arith}
use Rattle.join_generator.specs.Generated.{number_field}
use Rattle.join_generator.proofs.Rows.{are_columns, wholes_long}
use Rattle.join_generator.proofs.columns.number_frame.Goals as goal

pub from_columns-requires : goal.from_columns-requires
from_columns-requires c =
    let a = c.in_ok-first.first in
    let b = c.in_ok-second.second in
    let ids = c.args.numbers.ids.items in
    let others = c.args.numbers.others.items in
    let long : length a.values ≡ length ids = ap length c.in_ok-first.ensures.values ∙ wholes_long ids in
    let same : length b.values ≡ length others = ap length c.in_ok-second.ensures.values ∙ wholes_long others in
    let n = c.len-height.result in
    let height : n ≡ length ids = search rules in
    are_columns a b (number_field c.args.name.now) (number_field c.args.other.now) n c.in_ok-schema.schema c.in_ok-columns.columns.items
    c.in_ok-schema.ensures (search rules) c.in_ok-first.ensures.header c.in_ok-second.ensures.header
    (long ∙ sym height) (same ∙ sym c.requires ∙ sym height) c.in_ok-first.ensures.fits c.in_ok-second.ensures.fits
