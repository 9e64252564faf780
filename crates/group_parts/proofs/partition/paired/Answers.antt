use Rattle.std.proofs.Common.{rules, ◌<◌, [], ◌∷◌, ◌++◌, length, take, get_or, sym, ap, ◌∙◌, arith}
use Rattle.std.specs.List.{zip}
use Rattle.group_parts.proofs.Places.{next_is, zip_more}
use Rattle.group_parts.proofs.partition.paired.Goals as goal

pub loop-i-preserved : goal.loop-i-preserved
loop-i-preserved g c =
    let i = c.loop-i._i in
    let xs = c.args.lists.items in
    let ys = c.args.masks.items in
    let inside : i < length xs = omega arith in
    let within : i < length ys = omega arith in
    let x = next_is xs i c.in-Some.list c.next.new.self.rest.items inside (sym c.in-Some.ensures.items ∙ c.loop-i.invariant.left) in
    let y = next_is ys i c.in-Some-next.mask c.next-in-Some.new.self.rest.items within (sym c.in-Some-next.ensures.items ∙ c.loop-i.invariant.bits) in
    let more = zip_more xs ys i c.in-Some.list c.in-Some-next.mask inside within in
    record {
      left = x.1;
      bits = y.1;
      pairs = c.push_reserved.ensures.items ∙ ap (λ zs. zs ++ (c.in-Some.list, c.in-Some-next.mask) ∷ []) c.loop-i.invariant.pairs ∙ ap (λ a. zip (take i xs) (take i ys) ++ (a, c.in-Some-next.mask) ∷ []) x.0 ∙ ap (λ b. zip (take i xs) (take i ys) ++ (get_or xs i c.in-Some.list, b) ∷ []) y.0 ∙ sym more;
      many = search rules;
      room = search rules;
    }
