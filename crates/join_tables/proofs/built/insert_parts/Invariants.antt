use Rattle.std.proofs.Common.{◌+◌, ◌≤◌, [], true, length, map, get_or, take}
use Rattle.std.specs.List.{flat_map}
use Rattle.hash_keys.specs.Views.{keys_of}
use Rattle.chunked_idx_table.specs.Inserts.{with_chunk}
use Rattle.chunked_idx_table.specs.Probes.{keys_at}
use Rattle.join_tables.specs.Changed.{ChangedUpTo}
use Rattle.join_tables.proofs.built.insert_parts.Given as goal

abbrev pub invariant-loop-p : goal.invariant-loop-p
invariant-loop-p g l = record {
  changed : ChangedUpTo (λ q t. with_chunk true t (keys_at (keys_of l.keys) (get_or (map (λ v. v.items) l.lists) q []))) l.p l.fn.tables l.tables;
  cost : l.steps ≤ l.initial.steps + length (flat_map (λ v. v.items) (take l.p l.lists));
}
