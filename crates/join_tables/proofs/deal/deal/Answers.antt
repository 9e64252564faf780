use Rattle.std.proofs.Common.{ℕ, List, map, ap, ◌∙◌, Vec, Global}
use Rattle.std.proofs.lemmas.Result.{on_ok_weaker}
use Rattle.key_parts.specs.Partitions.{partition_of}
use Rattle.hash_keys.specs.Views.{keys_of, state_of}
use Rattle.list_laws.proofs.Lists.{slice_back}
use Rattle.join_tables.proofs.Dealt.{deals_all}
use Rattle.join_tables.proofs.deal.deal.Goals as goal

abbrev its : Vec ℕ Global → List ℕ
its v = v.items

pub returns-clause-rows : goal.returns-clause-rows
returns-clause-rows c =
    let back = slice_back c.args.lists.now.len c.gen_partition_idxs.new.partition_idxs c.args.lists.now.items (c.gen_partition_idxs.auto.partition_idxs ∙ c.deref_mut.ensures.len) in
    on_ok_weaker c.gen_partition_idxs.result (λ e. ap (map its) back ∙ e ∙ deals_all (partition_of (state_of c.args.keys.now) c.args.partitioner.now) c.args.partitioner.now.partitions (keys_of c.args.keys.now)) c.gen_partition_idxs.ensures.lists
