-- A large input from a number: the numbers that are drawn, the rows made of them, the tables and the query.
use Rattle.std.specs.Prelude.{ℕ, zero, suc, ◌+◌, ◌*◌, ◌/◌, ◌%◌, ◌^◌, ℤ, pos, ◌-ℤ◌, true, false, List, [], ◌∷◌, map, None, codes}
use Rattle.std.specs.List.{range_with_len}
use Rattle.col_core.specs.declared.leaf.Leaf.TheVariants as leaves
use Rattle.col_core.specs.declared.schema.Field.{Field}
use Rattle.col_core.specs.declared.data_type.DataType.TheVariants.{Int64}
use Rattle.col_core.specs.Tables.{Row, Table}
use Rattle.reduce_model.specs.declared.kind.ReductionKind.{ReductionKind}
use Rattle.reduce_model.specs.declared.kind.ReductionKind.TheVariants.{Sum, Min, Max, First, Last}
use Rattle.join_query.specs.declared.query.Query.{Query}
use Rattle.join_query.specs.declared.query.ColumnRef.{ColumnRef}
use Rattle.join_query.specs.declared.query.Reduction.{Reduction}
use Rattle.join_query.specs.declared.query.Side.TheVariants.{Build, Probe}
use Rattle.join_query.specs.declared.limits.TheConstants.{DEFAULT_PLAN}

-- the state that follows another
abbrev pub next_state : ℕ → ℕ
next_state x = (x * 6364136223846793005 + 1442695040888963407) % 2 ^ 64

-- the state after k draws
abbrev pub state_after : ℕ → ℕ
state_after zero = 0
state_after (suc k) = next_state (state_after k)

-- the number that is drawn as a state is reached: its upper 31 bits
abbrev pub upper_bits : ℕ → ℕ
upper_bits x = x / 2 ^ 33

-- the number of draw k, counted from 0
abbrev pub drawn : ℕ → ℕ
drawn k = upper_bits (state_after (suc k))

-- two numbers side by side
abbrev pub number_row : ℤ → ℤ → Row
number_row a b = leaves.Whole a ∷ leaves.Whole b ∷ []

abbrev pub number_field : List ℕ → Field
number_field name = record { name = name; dtype = Int64 }

-- build row i: two rows have one id
abbrev pub build_id : ℕ → ℤ
build_id i = pos (i / 2)

abbrev pub build_group : ℕ → ℤ
build_group i = pos (drawn i % 100)

abbrev pub build_row : ℕ → Row
build_row i = number_row (build_id i) (build_group i)

-- an amount, from -500 to 499
abbrev pub amount : ℕ → ℤ
amount x = pos (x % 1000) -ℤ pos 500

-- probe row j beside n build rows: its two numbers are drawn after those of all build rows and of the probe rows before it
abbrev pub probe_id : ℕ → ℕ → ℤ
probe_id n j = pos (drawn (n + 2 * j) % n)

abbrev pub probe_amount : ℕ → ℕ → ℤ
probe_amount n j = amount (drawn (n + 2 * j + 1))

abbrev pub probe_row : ℕ → ℕ → Row
probe_row n j = number_row (probe_id n j) (probe_amount n j)

-- the tables: n build rows, and four times as many probe rows
abbrev pub build_fields : List Field
build_fields = number_field (codes "id") ∷ number_field (codes "grp") ∷ []

abbrev pub probe_fields : List Field
probe_fields = number_field (codes "id") ∷ number_field (codes "amt") ∷ []

abbrev pub build_table : ℕ → Table
build_table n = record { schema = build_fields; rows = map build_row (range_with_len 0 n) }

abbrev pub probe_table : ℕ → Table
probe_table n = record { schema = probe_fields; rows = map (probe_row n) (range_with_len 0 (4 * n)) }

-- a reduction of the amounts
abbrev pub amount_reduction : ReductionKind → Reduction
amount_reduction kind = record { kind = kind; column = record { side = Probe; name = codes "amt" } }

-- the query: all rows of both sides are kept, and each kind of reduction is asked for in each group
abbrev pub generated_query : Query
generated_query = record {
  build_schema = build_fields;
  probe_schema = probe_fields;
  build_keys = codes "id" ∷ [];
  probe_keys = codes "id" ∷ [];
  null_equal = false;
  keep_probe = true;
  keep_build = true;
  filter = None;
  group_keys = record { side = Build; name = codes "grp" } ∷ [];
  reductions = map amount_reduction (Sum ∷ Min ∷ Max ∷ First ∷ Last ∷ []);
  plan = DEFAULT_PLAN;
}
