use Rattle.std.proofs.Common.{◌<◌, ℕ, length, subst}
use Rattle.hash_keys.proofs.Spelled.{present_more}
use Rattle.hash_keys.proofs.rows.present_rows.Goals as goal

pub loop-row-preserved : goal.loop-row-preserved
loop-row-preserved c =
    let rows = c.args.df.now.rows in
    let below : c.loop-row.row < length rows = subst (λ (n : ℕ). c.loop-row.row < n) c.height-row-end.ensures.height c.loop-row-test.true in
    present_more rows c.args.places.now c.loop-row.row c.has_null.result c.loop-row.present c.push.new.self below c.has_null.ensures c.loop-row.invariant c.in_ok-push.ensures.ok
