use Rattle.std.proofs.Common.{◌≡◌, length, IfOk, sym, ◌∙◌, subst}
use Rattle.std.specs.List.{All}
use Rattle.col_core.specs.Tables.{Column, Table}
use Rattle.pair_rows.proofs.JoinedRows.{probe_inside, build_inside, columns_are, long_columns, table_is}
use Rattle.pair_rows.proofs.joined.join_rows.Goals as goal

pub gather-requires-clause-places : goal.gather-requires-clause-places
gather-requires-clause-places c = rw (c.from_ref-morsel.ensures.value, c.deref.ensures.value, c.in_ok-probe_places.ensures) (probe_inside c.args.query.now c.args.morsel.now c.args.build.now c.args.pairs.now c.requires.pairs)

pub gather-requires-2-clause-places : goal.gather-requires-2-clause-places
gather-requires-2-clause-places c = rw (c.deref-2.ensures.value, c.in_ok-build_places.ensures) (build_inside c.args.query.now c.args.morsel.now c.args.build.now c.args.pairs.now c.requires.pairs)

-- the columns are those of both sides
pub frame_of_columns-requires : goal.frame_of_columns-requires
frame_of_columns-requires c =
    let q = c.args.query.now in
    let morsel = c.args.morsel.now in
    let build = c.args.build.now in
    let pairs = c.args.pairs.now in
    let are = columns_are q morsel build pairs c.from_ref-morsel.result.now c.deref.result.now c.deref-2.result.now c.new-columns.result.items c.gather.new.columns.items c.gather-2.new.columns.items c.side_prefix.result.now c.side_prefix-2.result.now
    c.from_ref-morsel.ensures.value (c.deref.ensures.value ∙ c.in_ok-probe_places.ensures) (c.deref-2.ensures.value ∙ c.in_ok-build_places.ensures) c.side_prefix.ensures c.side_prefix-2.ensures c.new-columns.ensures.items c.in_ok-gather.ensures c.in_ok-gather-2.ensures in
    subst (All (λ (x : Column). length x.values ≡ length pairs)) (sym are) (long_columns q morsel build pairs)

-- and their rows those of the pairs
pub returns : goal.returns
returns c =
    let q = c.args.query.now in
    let morsel = c.args.morsel.now in
    let build = c.args.build.now in
    let pairs = c.args.pairs.now in
    let are = columns_are q morsel build pairs c.from_ref-morsel.result.now c.deref.result.now c.deref-2.result.now c.new-columns.result.items c.gather.new.columns.items c.gather-2.new.columns.items c.side_prefix.result.now c.side_prefix-2.result.now
    c.from_ref-morsel.ensures.value (c.deref.ensures.value ∙ c.in_ok-probe_places.ensures) (c.deref-2.ensures.value ∙ c.in_ok-build_places.ensures) c.side_prefix.ensures c.side_prefix-2.ensures c.new-columns.ensures.items c.in_ok-gather.ensures c.in_ok-gather-2.ensures in
    subst (λ (t : Table). IfOk c.frame_of_columns.result (λ (f : Table). f ≡ t)) (table_is q morsel build pairs c.gather-2.new.columns.items are c.requires.probe c.height-height.ensures.wide c.requires.build c.know_wide.ensures c.requires.pairs) c.frame_of_columns.ensures
