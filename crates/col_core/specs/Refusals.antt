-- For what columns and frames are refused.
use Rattle.std.specs.Prelude.{ℕ, ◌==◌, Bool, not, if◌then◌else◌, List, [], ◌∷◌, length, Option, Some, None}
use Rattle.std.specs.List.{list_any}
use Rattle.std.specs.Cmp.Lexicographic.{pointwise}
use Rattle.col_core.specs.declared.schema.Field.{Field}
use Rattle.col_core.specs.declared.frame.FrameError.{FrameError}
use Rattle.col_core.specs.declared.frame.FrameError.TheVariants as frames
use Rattle.col_core.specs.declared.series.ColumnError.{ColumnError}
use Rattle.col_core.specs.declared.series.ColumnError.TheVariants as columns
use Rattle.col_core.specs.declared.chunk.Chunk.{Chunk}
use Rattle.col_core.specs.declared.data_type.DataType.{DataType}
use Rattle.col_core.specs.Schemas.{dtype_eq}
use Rattle.col_core.specs.Values.{is_text}
use Rattle.col_core.specs.Tables.{Column, is_of_kind, leaves_of}

-- the height of columns of one height, and 0 without a column
abbrev pub height_of : List Column → ℕ
height_of [] = 0
height_of (c ∷ cs) = length c.values

-- two columns differ in length: one of them differs from the first
abbrev pub differ_in_height : List Column → Bool
differ_in_height columns = list_any (λ c. not (length c.values == height_of columns)) columns

-- each column has its field's type, and there is one column for each field
abbrev pub has_types : List Field → List Column → Bool
has_types schema columns = pointwise (λ f c. dtype_eq f.dtype c.dtype) schema columns

-- the first cause for which columns make no frame under a schema, but for memory
abbrev pub frame_refusal : List Field → List Column → Option FrameError
frame_refusal schema columns =
    if not (length columns == length schema) then Some frames.Width
    else if differ_in_height columns then Some frames.Height
    else if not (has_types schema columns) then Some frames.WrongType
    else None

-- the first cause for which chunks make no column of a type, but for memory
abbrev pub column_refusal : DataType → List Chunk → Option ColumnError
column_refusal dtype chunks =
    if list_any (λ chunk. not (is_of_kind dtype chunk)) chunks then Some columns.WrongPhysical
    else if list_any (λ value. not (is_text dtype value)) (leaves_of chunks) then Some columns.NotUtf8
    else None
