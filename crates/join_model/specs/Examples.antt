-- Queries and tables of worked answers.
use Rattle.std.specs.Prelude.{ℕ, pos, Bool, true, false, List, [], ◌∷◌, Option, None, Some, codes}
use Rattle.col_core.specs.declared.leaf.Leaf.{Leaf}
use Rattle.col_core.specs.declared.schema.Field.{Field}
use Rattle.col_core.specs.declared.data_type.DataType.{DataType}
use Rattle.col_core.specs.declared.data_type.DataType.TheVariants.{Int64, String, Date, Decimal}
use Rattle.col_core.specs.Tables.{Row, Table}
use Rattle.reduce_model.specs.declared.kind.ReductionKind.{ReductionKind}
use Rattle.reduce_model.specs.declared.kind.ReductionKind.TheVariants.{Sum, Min, Max, First, Last}
use Rattle.join_query.specs.declared.query.Query.{Query}
use Rattle.join_query.specs.declared.query.ColumnRef.{ColumnRef}
use Rattle.join_query.specs.declared.query.Reduction.{Reduction}
use Rattle.join_query.specs.declared.query.Side.TheVariants.{Build, Probe}
use Rattle.join_query.specs.declared.query.FilterOp.TheVariants as ops
use Rattle.join_query.specs.declared.query.IntLiteral.TheVariants as literals
use Rattle.join_query.specs.declared.query.Operand.TheVariants as operands
use Rattle.join_query.specs.declared.limits.TheConstants.{DEFAULT_PLAN}
use Rattle.reduce_model.specs.Examples.{number, minus, text}

abbrev pub field : List ℕ → DataType → Field
field name dtype = record { name = name; dtype = dtype }

abbrev pub build_column : List ℕ → ColumnRef
build_column name = record { side = Build; name = name }

abbrev pub probe_column : List ℕ → ColumnRef
probe_column name = record { side = Probe; name = name }

abbrev pub reduction : ReductionKind → ColumnRef → Reduction
reduction kind column = record { kind = kind; column = column }

abbrev pub table : List Field → List Row → Table
table schema rows = record { schema = schema; rows = rows }

-- an inner join of one key column on each side, without a filter, with one group key and one sum
abbrev pub simple_query : List Field → List Field → List ℕ → List ℕ → ColumnRef → ColumnRef → Query
simple_query build_schema probe_schema build_key probe_key group summed = record {
  build_schema = build_schema;
  probe_schema = probe_schema;
  build_keys = build_key ∷ [];
  probe_keys = probe_key ∷ [];
  null_equal = false;
  keep_probe = false;
  keep_build = false;
  filter = None;
  group_keys = group ∷ [];
  reductions = reduction Sum summed ∷ [];
  plan = DEFAULT_PLAN;
}

-- customers, in two frames, and their orders
abbrev pub customers : List Field
customers = field (codes "id") Int64 ∷ field (codes "name") String ∷ []

abbrev pub orders : List Field
orders = field (codes "cust") Int64 ∷ field (codes "amt") Int64 ∷ []

abbrev pub customer : ℕ → List ℕ → Row
customer id name = number id ∷ text name ∷ []

abbrev pub two_numbers : ℕ → ℕ → Row
two_numbers a b = number a ∷ number b ∷ []

abbrev pub customer_frames : List Table
customer_frames = table customers (customer 1 (codes "Ann") ∷ customer 2 (codes "Bo") ∷ []) ∷ table customers (customer 1 (codes "Cy") ∷ []) ∷ []

abbrev pub order_frames : List Table
order_frames = table orders (two_numbers 1 5 ∷ two_numbers 3 7 ∷ two_numbers 2 1 ∷ []) ∷ []

abbrev pub inner_query : Query
inner_query = simple_query customers orders (codes "id") (codes "cust") (build_column (codes "name")) (probe_column (codes "amt"))

-- the same with both keep flags, and without an order of customer 2
abbrev pub outer_query : Query
outer_query = record inner_query { keep_probe = true; keep_build = true }

abbrev pub fewer_orders : List Table
fewer_orders = table orders (two_numbers 1 5 ∷ two_numbers 3 7 ∷ []) ∷ []

-- keys that may be null
abbrev pub keyed_build : List Field
keyed_build = field (codes "k") Int64 ∷ field (codes "b") Int64 ∷ []

abbrev pub keyed_probe : List Field
keyed_probe = field (codes "k") Int64 ∷ field (codes "a") Int64 ∷ []

abbrev pub null_key_query : Query
null_key_query = record (simple_query keyed_build keyed_probe (codes "k") (codes "k") (probe_column (codes "k")) (build_column (codes "b"))) { keep_probe = true }

abbrev pub null_joins_query : Query
null_joins_query = record null_key_query { null_equal = true }

-- a filter: the amount is not 5; unmatched build rows are kept
abbrev pub filter_query : Query
filter_query = record (simple_query (field (codes "id") Int64 ∷ []) (field (codes "id") Int64 ∷ field (codes "amt") Int64 ∷ []) (codes "id") (codes "id") (probe_column (codes "id")) (probe_column (codes "amt"))) {
  keep_build = true;
  filter = Some (record { op = ops.Ne; left = probe_column (codes "amt"); right = operands.Literal (literals.I64 (pos 5)) });
}

-- an ordinary report: orders by day and total, each kind of reduction by region
abbrev pub regions : List Field
regions = field (codes "id") Int64 ∷ field (codes "region") String ∷ []

abbrev pub sales : List Field
sales = field (codes "cust") Int64 ∷ field (codes "day") Date ∷ field (codes "total") (Decimal 10 2) ∷ []

abbrev pub report_query : Query
report_query = record (simple_query regions sales (codes "id") (codes "cust") (build_column (codes "region")) (probe_column (codes "total"))) {
  keep_probe = true;
  reductions = reduction Sum (probe_column (codes "total")) ∷ reduction Min (probe_column (codes "day")) ∷ reduction Max (probe_column (codes "day"))
      ∷ reduction First (probe_column (codes "day")) ∷ reduction Last (probe_column (codes "total")) ∷ [];
}

abbrev pub region_frames : List Table
region_frames = table regions (customer 1 (codes "north") ∷ customer 2 (codes "south") ∷ []) ∷ []

abbrev pub sales_frames : List Table
sales_frames = table sales (
    (number 1 ∷ number 19000 ∷ number 1250 ∷ [])
    ∷ (number 2 ∷ number 19001 ∷ number 999 ∷ [])
    ∷ (number 1 ∷ number 19002 ∷ minus 250 ∷ []) ∷ [])
    ∷ table sales ((number 3 ∷ number 19003 ∷ number 500 ∷ []) ∷ (number 2 ∷ number 18999 ∷ number 1 ∷ []) ∷ []) ∷ []
