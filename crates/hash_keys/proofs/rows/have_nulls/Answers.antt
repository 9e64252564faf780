use Rattle.std.proofs.Common.{◌<◌, ◌≤◌, ℕ, sym, subst}
use Rattle.std.specs.List.{count_by}
use Rattle.col_core.specs.Values.{is_null}
use Rattle.hash_keys.proofs.Spelled.{columns_some, columns_none}
use Rattle.hash_keys.proofs.rows.have_nulls.Goals as goal

pub returns-then-null_count-gt0 : goal.returns-then-null_count-gt0
returns-then-null_count-gt0 c =
    let some : 0 < count_by is_null c.column.result.now.values = subst (λ (n : ℕ). 0 < n) c.null_count.ensures c.if-null_count-gt0.true in
    sym (columns_some c.args.df.now.rows c.args.places.now c.loop-place.place-index 0 c.column.result.now.values c.loop-place-test.true c.column.ensures.values some)

pub loop-place-preserved : goal.loop-place-preserved
loop-place-preserved c =
    let none : count_by is_null c.column.result.now.values ≤ 0 = subst (λ (n : ℕ). n ≤ 0) c.null_count.ensures c.if-null_count-gt0.false in
    columns_none c.args.df.now.rows c.args.places.now c.loop-place.place-index 0 c.column.result.now.values c.loop-place-test.true c.column.ensures.values none c.loop-place.invariant
