use Rattle.std.proofs.Common.{◌≡◌, ◌+◌, ◌-◌, ◌≤◌, ◌++◌, length, map, take, vec_len}
use Rattle.std.specs.Prelude.{vec_capacity}
use Rattle.chunked_idx_table.proofs.words.push_matches.Given as goal

abbrev pub invariant-loop-word : goal.invariant-loop-word
invariant-loop-word l = record {
  so_far : l.probe_match.items ≡ l.initial.probe_match.items ++ map (λ _. l.index) (take l._word-index l.words);
  room : vec_len l.probe_match + (length l.words - l._word-index) ≤ vec_capacity l.probe_match;
}
