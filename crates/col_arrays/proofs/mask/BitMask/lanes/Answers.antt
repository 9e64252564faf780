use Rattle.std.proofs.Common.{◌≡◌, ◌+◌, ◌-◌, ◌/◌, min, ap, sym, ◌∙◌, arith, length, take, drop}
use Rattle.std.specs.Simd.Lanes.{mask_l}
use Rattle.col_arrays.proofs.BitLists.{length-bits}
use Rattle.col_arrays.proofs.Words.{lanes_are, lanes_past}
use Rattle.col_arrays.proofs.mask.BitMask.lanes.Goals as goal

pub returns-then-offset-self : goal.returns-then-offset-self
returns-then-offset-self c =
    let long : length c.args.self.now ≡ c.self.inside.len = ap length (sym c.self.view_is) ∙ length-bits c.self.inside.bytes.now c.self.inside.offset c.self.inside.len in
    lanes_past c.args.self.now c.args.offset (omega arith)

pub returns : goal.returns
returns c =
    let count = c.min-count.result in
    let first = c.self.inside.offset + c.args.offset in
    let least : count ≡ min 64 (c.self.inside.len - c.args.offset) = grind (arith, c.min-count.ensures) in
    lanes_are c.self.inside.bytes.now c.self.inside.offset c.self.inside.len c.args.offset ((first + count - 1) / 8 + 1 - first / 8) count c.word_of.result c.if-offset-self.false least (omega arith) c.word_of.ensures.bits
    ∙ ap (λ bits. mask_l (take 64 (drop c.args.offset bits))) c.self.view_is
