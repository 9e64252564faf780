-- Why a text was not made.
use Rattle.std.specs.IoError.{error_kind}
use Rattle.std.specs.declared.io.ErrorKind.{ErrorKind as IoKind}
use Rattle.std.specs.declared.io.ErrorKind.TheVariants as io
use Rattle.csv.specs.declared.error.ErrorKind.{ErrorKind}
use Rattle.csv.specs.declared.error.ErrorKind.TheVariants as csv
use Rattle.table_text.specs.declared.error.TextError.{TextError}
use Rattle.table_text.specs.declared.error.TextError.TheVariants.{Memory, Writer}

-- want of memory, where a write says so, and else another cause
abbrev pub error_of_io : IoKind → TextError
error_of_io io.OutOfMemory = Memory
error_of_io _ = Writer

-- the cause, by what csv's writer says
abbrev pub text_error_of : ErrorKind → TextError
text_error_of csv.OutOfMemory = Memory
text_error_of (csv.Io e) = error_of_io (error_kind e)
text_error_of _ = Writer
