use Rattle.std.proofs.Common.{◌≡◌, ◌+◌, ◌-◌, ◌++◌, take, drop, ap, ◌∙◌, arith, rules}
use Rattle.col_arrays.proofs.Packed.{joined_range}
use Rattle.col_arrays.proofs.bitmap.Bitmap.extend_from_range.Goals as goal

pub returns-else-is_err-clause-ok : goal.returns-else-is_err-clause-ok
returns-else-is_err-clause-ok c =
    let source = c.args.source.now in
    let first = c.min-first.result in
    let rest = take (c.args.len - first) (drop (c.args.start + first) source) in
    let front : c.extend_from_bits.new.self ≡ c.args.self.now ++ take first (drop c.args.start source) = c.in_ok-extend_from_bits.ensures.ok ∙ ap (λ old. old ++ take first (drop c.args.start source)) c.reserve.ensures in
    let grown : c.extend_from_words-extended.new.self ≡ c.extend_from_bits.new.self ++ rest = search rules in
    grown ∙ ap (λ old. old ++ rest) front ∙ joined_range c.args.self.now source c.args.start first c.args.len (omega arith)
