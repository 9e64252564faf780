use Rattle.std.proofs.Common.{◌≡◌, ℕ, ◌<◌, List, length, sym, ap₂, ◌∙◌, arith}
use Rattle.key_parts.specs.Sketches.{merged}
use Rattle.key_parts.proofs.Sketches.{merged_from}
use Rattle.key_parts.proofs.sketch.HyperLogLog.merge.Goals as goal

pub returns : goal.returns
returns c =
    merged_from c.self.inside.registers.items c.other.inside.registers.items c.loop-i.self-inside.registers.items
    (omega arith) (omega arith) (λ k h. c.loop-i.invariant.done k (omega arith))
    ∙ ap₂ merged c.self.view_is c.other.view_is
