use Rattle.key_parts.proofs.sketch.HyperLogLog.new.Goals as goal

pub returns : goal.returns
returns c = c.in_ok-registers.ensures.items_if_clones_equal (λ y e. e)
