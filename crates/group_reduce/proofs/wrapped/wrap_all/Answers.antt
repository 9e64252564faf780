use Rattle.std.proofs.Common.{rules, ◌<◌, [], ◌∷◌, ◌++◌, length, take, sym, ap, subst, ◌∙◌, arith}
use Rattle.std.specs.List.{AllZip}
use Rattle.std.proofs.lemmas.List.{take_more}
use Rattle.group_parts.proofs.Places.{next_is}
use Rattle.group_reduce.proofs.Kept.{AllZip-push}
use Rattle.group_reduce.proofs.wrapped.wrap_all.Goals as goal

pub wrap-requires : goal.wrap-requires
wrap-requires g c =
    let i = c.loop-i._i in
    let xs = c.args.parts.items in
    let inside : i < length xs = omega arith in
    let x = next_is xs i c.in-Some.part c.next.new.self.rest.items inside (sym c.in-Some.ensures.items ∙ c.loop-i.invariant.left) in
    subst (goal.F-pre g c.args.wrap) (sym x.0) (c.requires.can i c.in-Some.part inside)

pub loop-i-preserved : goal.loop-i-preserved
loop-i-preserved g c =
    let i = c.loop-i._i in
    let xs = c.args.parts.items in
    let inside : i < length xs = omega arith in
    let x = next_is xs i c.in-Some.part c.next.new.self.rest.items inside (sym c.in-Some.ensures.items ∙ c.loop-i.invariant.left) in
    let R = λ (s : g.row.S.Denot) (t : g.row.T.Denot). goal.F-post g c.args.wrap s t in
    let now = AllZip-push R (take i xs) c.loop-i.out.items c.in-Some.part c.wrap.result c.loop-i.invariant.done c.wrap.ensures in
    record {
      left = x.1;
      many = search rules;
      room = search rules;
      done = rw c.push_reserved.ensures.items (subst (λ zs. AllZip R zs (c.loop-i.out.items ++ c.wrap.result ∷ [])) (ap (λ y. take i xs ++ y ∷ []) x.0 ∙ sym (take_more xs i c.in-Some.part inside)) now);
    }
