use Rattle.std.proofs.Common.{ℕ, Vec, Global}
use Rattle.hash_keys.proofs.Dealt.{pushed_at, unchanged_at}
use Rattle.hash_keys.proofs.deal.push_row.Goals as goal

pub returns-in_err-push-clause-err : goal.returns-in_err-push-clause-err
returns-in_err-push-clause-err c =
    unchanged_at c.from_residual.result (λ (v : Vec ℕ Global). v.items) c.args.lists.now c.args.partition c.index-lists-partition.result c.push.new.self
    c.in_err-push.ensures.items

pub returns-clause-ok : goal.returns-clause-ok
returns-clause-ok c = λ p.
    pushed_at (λ (v : Vec ℕ Global). v.items) c.args.lists.now c.args.partition p c.args.row c.index-lists-partition.result c.push.new.self
    c.requires c.in_ok-push.ensures.items
