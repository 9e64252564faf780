-- The exit status and the line of each cause why the program does not answer.
use Rattle.std.specs.Prelude.{ℕ, List, ◌++◌, codes, decimal, Result, Ok, Err}
use Rattle.byte_streams.specs.declared.whole.ReadError.{ReadError}
use Rattle.byte_streams.specs.declared.whole.ReadError.TheVariants as reads
use Rattle.join_request.specs.declared.error.RequestError.{RequestError}
use Rattle.join_request.specs.declared.error.RequestError.TheVariants as requests
use Rattle.join_query.specs.declared.error.QueryError.{QueryError}
use Rattle.join_query.specs.declared.error.QueryError.TheVariants as queries
use Rattle.table_text.specs.declared.error.TextError.{TextError}
use Rattle.table_text.specs.declared.error.TextError.TheVariants as texts
use Rattle.join_command.specs.declared.error.ToolError.{ToolError}
use Rattle.join_command.specs.declared.error.ToolError.TheVariants.{Usage, ReadFault, TooLong, Request, Query, WriteFault, TextFault, Memory}

abbrev pub status_of : ToolError → ℕ
status_of Usage = 2
status_of ReadFault = 3
status_of TooLong = 4
status_of (Request e) = 5
status_of (Query e) = 6
status_of WriteFault = 7
status_of TextFault = 8
status_of Memory = 8

-- why bytes are no request
abbrev pub request_text : RequestError → List ℕ
request_text requests.NotJson = codes "not JSON"
request_text requests.Float = codes "float in request"
request_text _ = codes "not a request"

-- the number and the name of a cause why a query is refused, and the place that it keeps
abbrev pub query_text : QueryError → List ℕ
query_text queries.NoKeyColumns = codes "query refused: 1 NoKeyColumns"
query_text (queries.UnknownColumn position) = codes "query refused: 2 UnknownColumn " ++ decimal position
query_text queries.SchemaMismatch = codes "query refused: 3 SchemaMismatch"
query_text (queries.UnsupportedReduction index) = codes "query refused: 4 UnsupportedReduction " ++ decimal index
query_text queries.UnsupportedFilter = codes "query refused: 5 UnsupportedFilter"
query_text queries.BadPlan = codes "query refused: 6 BadPlan"
query_text queries.TooLarge = codes "query refused: 7 TooLarge"
query_text queries.Memory = codes "query refused: 8 Memory"

abbrev pub cause_text : ToolError → List ℕ
cause_text Usage = codes "usage: join_tool or join_tool gen N"
cause_text ReadFault = codes "read fault"
cause_text TooLong = codes "request too long"
cause_text (Request e) = request_text e
cause_text (Query e) = query_text e
cause_text WriteFault = codes "write fault"
cause_text TextFault = codes "text fault"
cause_text Memory = codes "out of memory"

-- the line that tells of a cause
abbrev pub line_of : ToolError → List ℕ
line_of e = cause_text e ++ codes "\n"

-- the program's cause where reading stopped before the end
abbrev pub error_of_read : ReadError → ToolError
error_of_read reads.Fault = ReadFault
error_of_read reads.TooLong = TooLong
error_of_read reads.Memory = Memory

-- the program's cause where a request was not read, where its query was not answered, and where no text was made: want of memory
-- is one cause, whichever call wanted it
abbrev pub error_of_request : RequestError → ToolError
error_of_request requests.Memory = Memory
error_of_request e = Request e

abbrev pub error_of_query : QueryError → ToolError
error_of_query queries.Memory = Memory
error_of_query e = Query e

abbrev pub error_of_text : TextError → ToolError
error_of_text texts.Memory = Memory
error_of_text texts.Writer = TextFault

-- the status of an answer, or of a cause why there is none
abbrev pub status_after : {A : Type 0} → Result A ToolError → ℕ
status_after (Ok _) = 0
status_after (Err e) = status_of e
