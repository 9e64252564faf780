-- Room in a table.
use Rattle.std.specs.Prelude.{ℕ, ◌+◌, ◌-◌, ◌^◌, ◌<◌}
use Rattle.chunked_idx_table.specs.Tables.{ProbeTable, size_of}

-- a table has room for a chunk of so many rows
pub record HasRoom (t : ProbeTable) (rows : ℕ) : Type 0 where
  pub few_rows : rows < 2 ^ 31
  pub few_chunks : t.chunks < 2 ^ 32 - 1
  pub few : size_of t + rows < 2 ^ 32
