-- Counts of calls and of faults, which are kept in 64 bits and stand still at the last value.
use Rattle.std.specs.Prelude.{ℕ, ◌+◌, ◌-◌, ◌^◌, ◌≤◌, min, Bool, if◌then◌else◌}

-- one more, up to the greatest number of 64 bits
abbrev pub one_more : ℕ → ℕ
one_more n = min (n + 1) (2 ^ 64 - 1)

-- one more fault where a call failed
abbrev pub faults_after : Bool → ℕ → ℕ
faults_after failed faults = if failed then one_more faults else faults

-- A count of faults rose, or stands at its last value.
abbrev pub Rose : ℕ → ℕ → Type 0
Rose before now = one_more before ≤ now
