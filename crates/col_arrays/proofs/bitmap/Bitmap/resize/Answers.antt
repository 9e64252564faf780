use Rattle.std.proofs.Common.{◌≡◌, ◌-◌, ◌++◌, replicate, ap, ◌∙◌, arith, rules}
use Rattle.col_arrays.proofs.Packed.{joined_copies}
use Rattle.col_arrays.proofs.bitmap.Bitmap.resize.Goals as goal

pub returns-else-is_err-clause-ok : goal.returns-else-is_err-clause-ok
returns-else-is_err-clause-ok c =
    let old = c.args.self.now in
    let bit = c.args.bit in
    let more = c.args.n - c.len-len.result in
    let first = c.min-first.result in
    let rest = replicate (more - first) bit in
    let front : c.extend_bit.new.self ≡ old ++ replicate first bit = c.in_ok-extend_bit.ensures.ok ∙ ap (λ bits. bits ++ replicate first bit) c.reserve.ensures in
    let grown : c.fill-filled.new.self ≡ c.extend_bit.new.self ++ rest = search rules in
    grown ∙ ap (λ bits. bits ++ rest) front ∙ joined_copies old bit first more c.args.n (omega arith) (omega arith) (ap (λ m. c.args.n - m) c.len-len.ensures)
