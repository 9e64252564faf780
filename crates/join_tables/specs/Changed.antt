-- Tables of which the first partitions have changed.
use Rattle.std.specs.Prelude.{◌≡◌, ℕ, ◌<◌, ◌≤◌, List, length, get_or}
use Rattle.chunked_idx_table.specs.Tables.{ProbeTable}
use Rattle.join_laws.specs.Partitions.{no_table}

-- the tables of partitions below p have changed as F says, the others not
pub record ChangedUpTo (F : ℕ → ProbeTable → ProbeTable) (p : ℕ) (olds news : List ProbeTable) : Type 0 where
  pub long : length news ≡ length olds
  pub done : (q : ℕ) → q < p → get_or news q no_table ≡ F q (get_or olds q no_table)
  pub rest : (q : ℕ) → p ≤ q → get_or news q no_table ≡ get_or olds q no_table
