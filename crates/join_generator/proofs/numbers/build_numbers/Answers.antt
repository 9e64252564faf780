use Rattle.std.proofs.Common.{◌≡◌, ◌+◌, ap, ◌∙◌, rules}
use Rattle.join_generator.specs.Generated.{build_id, build_group}
use Rattle.join_generator.proofs.Drawn.{passed_more, state_more, group_is}
use Rattle.join_generator.proofs.numbers.build_numbers.Goals as goal

pub loop-i-preserved : goal.loop-i-preserved
loop-i-preserved c =
    let i = c.loop-i.i in
    let before = c.loop-i.invariant in
    let s = c.loop-i.draws in
    let t = c.draw.new.self in
    let id : c.from.result ≡ build_id i = search rules in
    let group : c.remainder.result ≡ build_group i = c.remainder.ensures ∙ group_is i s t c.draw.result before.drawn c.draw.ensures.next c.draw.ensures.drawn in
    record {
      ids = passed_more build_id i c.loop-i.ids.items c.push_reserved.new.self.items c.from.result (search rules) before.ids c.push_reserved.ensures.items id;
      others = passed_more build_group i c.loop-i.others.items c.push_reserved-in-loop-i.new.self.items c.remainder.result (search rules) before.others c.push_reserved-in-loop-i.ensures.items group;
      drawn = state_more i s t before.drawn c.draw.ensures.next;
      ids_long = c.push_reserved.ensures.len ∙ ap (λ k. k + 1) before.ids_long;
      others_long = c.push_reserved-in-loop-i.ensures.len ∙ ap (λ k. k + 1) before.others_long;
      ids_room = c.push_reserved.ensures.capacity ∙ before.ids_room;
      others_room = c.push_reserved-in-loop-i.ensures.capacity ∙ before.others_room;
    }
