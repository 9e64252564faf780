use Rattle.std.proofs.Common.{◌≡◌, ◌+◌, ◌-◌, ◌≤◌, ◌++◌, Some, length, map, take, vec_len}
use Rattle.std.specs.Prelude.{vec_capacity}
use Rattle.key_parts.specs.Positions.{position}
use Rattle.chunked_idx_table.specs.Words.{position_kept}
use Rattle.chunked_idx_table.proofs.words.push_positions.Given as goal

abbrev pub invariant-loop-word : goal.invariant-loop-word
invariant-loop-word l = record {
  so_far : map position l.out.items ≡ map position l.initial.out.items ++ map (λ word. Some (position_kept word)) (take l.word-index l.words);
  room : vec_len l.out + (length l.words - l.word-index) ≤ vec_capacity l.out;
}
