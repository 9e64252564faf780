use Rattle.std.proofs.Common.{◌≡◌}
use Rattle.row_code_tests.proofs.tests.decoder_of.Given as goal

abbrev pub invariant-loop-bytes : goal.invariant-loop-bytes
invariant-loop-bytes l = l.read.schema ≡ l.fn.schema
