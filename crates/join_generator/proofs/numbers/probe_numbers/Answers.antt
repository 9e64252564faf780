use Rattle.std.proofs.Common.{◌≡◌, ℕ, ◌+◌, ◌*◌, map, ap, ◌∙◌, rules, arith}
use Rattle.std.specs.List.{range_with_len}
use Rattle.join_generator.specs.Generated.{probe_id, probe_amount}
use Rattle.join_generator.proofs.Drawn.{passed_more, row_more, id_is, amount_is}
use Rattle.join_generator.proofs.numbers.probe_numbers.Goals as goal

pub loop-j-preserved : goal.loop-j-preserved
loop-j-preserved c =
    let n = c.args.n in
    let j = c.loop-j.j in
    let before = c.loop-j.invariant in
    let s = c.loop-j.draws in
    let t = c.draw.new.self in
    let u = c.draw-in-loop-j.new.self in
    let id : c.remainder.result ≡ probe_id n j = c.remainder.ensures ∙ id_is n j s t c.draw.result before.drawn c.draw.ensures.next c.draw.ensures.drawn in
    let amount : c.amount.result ≡ probe_amount n j = c.amount.ensures ∙ amount_is n j s t u c.draw-in-loop-j.result before.drawn c.draw.ensures.next c.draw-in-loop-j.ensures.next c.draw-in-loop-j.ensures.drawn in
    record {
      ids = passed_more (probe_id n) j c.loop-j.ids.items c.push_reserved.new.self.items c.remainder.result (search rules) before.ids c.push_reserved.ensures.items id;
      others = passed_more (probe_amount n) j c.loop-j.others.items c.push_reserved-in-loop-j.new.self.items c.amount.result (search rules) before.others c.push_reserved-in-loop-j.ensures.items amount;
      drawn = row_more n j s t u before.drawn c.draw.ensures.next c.draw-in-loop-j.ensures.next;
      ids_long = c.push_reserved.ensures.len ∙ ap (λ k. k + 1) before.ids_long;
      others_long = c.push_reserved-in-loop-j.ensures.len ∙ ap (λ k. k + 1) before.others_long;
      ids_room = c.push_reserved.ensures.capacity ∙ before.ids_room;
      others_room = c.push_reserved-in-loop-j.ensures.capacity ∙ before.others_room;
    }

pub returns-clause-ids : goal.returns-clause-ids
returns-clause-ids c =
    let all : c.loop-j.j ≡ 4 * c.args.n = omega arith in
    c.loop-j.invariant.ids ∙ ap (λ (k : ℕ). map (probe_id c.args.n) (range_with_len 0 k)) all

pub returns-clause-amounts : goal.returns-clause-amounts
returns-clause-amounts c =
    let all : c.loop-j.j ≡ 4 * c.args.n = omega arith in
    c.loop-j.invariant.others ∙ ap (λ (k : ℕ). map (probe_amount c.args.n) (range_with_len 0 k)) all
