use Rattle.std.proofs.Common.{◌≡◌, ◌∙◌, ◌++◌, List, ℕ, Ok, Err, is_ok, OnOk, cond, ap, sym}
use Rattle.std.specs.Prelude.{if◌then◌else◌, Result, ℤ}
use Rattle.std.specs.Int.{w128, to_le_bytes, cast_unsigned}
use Rattle.std.proofs.lemmas.Int.{to_z-of_z}
use Rattle.std.specs.declared.alloc.AllocError.{AllocError}
use Rattle.col_core.specs.declared.data_type.PhysicalType.{PhysicalType}
use Rattle.col_core.specs.Physical.{physical_of}
use Rattle.row_code.specs.Spelling.{whole_bytes, width_of}
use Rattle.row_code.proofs.encode.push_whole.Goals as goal

-- what was written, where it was
written : (r : Result (Unit {0}) AllocError) (new old bytes all : List ℕ) → new ≡ (if is_ok r then old ++ bytes else old) → bytes ≡ all → OnOk r (new ≡ old ++ all)
written (Ok u) new old bytes all h e = h ∙ ap (λ (b : List ℕ). old ++ b) e
written (Err x) new old bytes all h e = tt

pub returns-in-I128 : goal.returns-in-I128
returns-in-I128 c =
    written c.extend_from_slice-in-I128.result c.extend_from_slice-in-I128.new.self.items c.args.out.now.items c.to_le_bytes-in-I128.result
    (whole_bytes (width_of (physical_of c.args.dtype)) c.args.z) c.extend_from_slice-in-I128.ensures.items
    (c.to_le_bytes-in-I128.ensures ∙ ap (λ (z : ℤ). to_le_bytes w128 (cast_unsigned w128 z)) (to_z-of_z w128 c.args.z c.ranges.z) ∙ ap (λ (k : PhysicalType). whole_bytes (width_of k) c.args.z) (sym c.in-I128.is ∙ c.physical.ensures))
