use Rattle.std.proofs.Common.{rules, ◌≡◌, ◌++◌, ◌∙◌}
use Rattle.std.proofs.lemmas.Result.{IfOk-weaker}
use Rattle.join_groups.proofs.GroupTable.{frame_accepted, frame_is, parts_from}
use Rattle.join_groups.proofs.table.group_rows.Goals as goal

pub frame_under-requires : goal.frame_under-requires
frame_under-requires c =
    let q = c.args.query.now in
    let parts = parts_from q c.args.groups c.in_ok-keys.keys c.as_slice-2.result.now c.in_ok-columns.columns.items c.as_slice-2.ensures c.requires.some c.requires.schema c.requires.order c.requires.types c.requires.heights
    c.in_ok-keys.ensures.schema c.in_ok-keys.ensures.fit c.in_ok-keys.ensures.spelled c.in_ok-columns.ensures.headers c.in_ok-columns.ensures.lengths c.in_ok-columns.ensures.rows in
    let all : c.in_ok-joined_columns.field-0.items ≡ c.in_ok-columns.columns.items ++ c.args.groups.columns = search rules in
    frame_accepted q c.args.groups c.in_ok-keys.keys c.in_ok-columns.columns.items parts _ _ (c.schema.view_is ∙ c.in_ok-schema.ensures) all

pub returns : goal.returns
returns c =
    let q = c.args.query.now in
    let parts = parts_from q c.args.groups c.in_ok-keys.keys c.as_slice-2.result.now c.in_ok-columns.columns.items c.as_slice-2.ensures c.requires.some c.requires.schema c.requires.order c.requires.types c.requires.heights
    c.in_ok-keys.ensures.schema c.in_ok-keys.ensures.fit c.in_ok-keys.ensures.spelled c.in_ok-columns.ensures.headers c.in_ok-columns.ensures.lengths c.in_ok-columns.ensures.rows in
    let all : c.in_ok-joined_columns.field-0.items ≡ c.in_ok-columns.columns.items ++ c.args.groups.columns = search rules in
    IfOk-weaker c.frame_under.result _ _ (λ t h. frame_is q c.args.groups c.in_ok-keys.keys c.in_ok-columns.columns.items parts _ _ t (c.schema.view_is ∙ c.in_ok-schema.ensures) all h) c.frame_under.ensures
