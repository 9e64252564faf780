use Rattle.std.proofs.Common.{◌≡◌, map, take}
use Rattle.std.specs.List.{All}
use Rattle.hash_keys.specs.Views.{keys_of, state_of}
use Rattle.join_model.specs.Joined.{rows_of}
use Rattle.join_probes.specs.Keys.{HasKey}
use Rattle.join_probes.specs.Probed.{build_frame_keys}
use Rattle.join_probes.proofs.built.build_keys.Given as goal

abbrev pub invariant-loop-frame : goal.invariant-loop-frame
invariant-loop-frame l = record {
  keys : map keys_of l.keys.items ≡ build_frame_keys l.fn.query (take l.frame-index l.build);
  state : All (λ k. state_of k ≡ l.state) l.keys.items;
  spelled : All (HasKey l.fn.query.build_schema l.fn.query.build_keys) (rows_of (take l.frame-index l.build));
}
