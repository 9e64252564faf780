use Rattle.std.proofs.Common.{◌≡◌, ℕ, ◌<◌, ◌≤◌, length, get_or, max}
use Rattle.key_parts.proofs.sketch.HyperLogLog.merge.Given as goal

-- the registers below i are merged, and the others are as they were
abbrev pub invariant-loop-i : goal.invariant-loop-i
invariant-loop-i l = record {
  length : length l.self-inside.registers.items ≡ 16384;
  done : (k : ℕ) → k < l.i → get_or l.self-inside.registers.items k 0 ≡ max (get_or l.initial.self-inside.registers.items k 0) (get_or l.other-inside.registers.items k 0);
  rest : (k : ℕ) → l.i ≤ k → get_or l.self-inside.registers.items k 0 ≡ get_or l.initial.self-inside.registers.items k 0;
}
