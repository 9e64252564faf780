use Rattle.std.proofs.Common.{rules, ◌≡◌, ◌≤◌, ◌∷◌, ◌++◌, Bool, false, cond, List, [], length, map, take, get_or, sym, ap, subst, ◌∙◌, arith}
use Rattle.std.proofs.lemmas.List.{length-map, get_or-map, take_all}
use Rattle.col_core.specs.declared.leaf.Leaf.{Leaf}
use Rattle.col_core.specs.declared.leaf.Leaf.TheVariants as leaves
use Rattle.col_core.specs.Lent.{lent_leaf}
use Rattle.col_core.specs.Tables.{Growing}
use Rattle.kept_values.specs.Shown.{shown_values}
use Rattle.kept_values.proofs.Masked.{shown_more, length-shown, mask_length}
use Rattle.kept_values.proofs.finished.finished_column.Goals as goal

pub loop-i-preserved : goal.loop-i-preserved
loop-i-preserved g c =
    let given = g.G.GivesValues.given in
    let kept = c.args.kept.now in
    let i = c.loop-i.i in
    record {
      dtype = search rules;
      values = λ bits m.
          let all = map given kept in
          let long : length all ≡ length kept = length-map kept given in
          let wide : length bits ≡ length kept = mask_length c.args.mask (λ b. b.now) bits (length kept) m c.requires.mask in
          let bit = get_or bits i false in
          let item : lent_leaf c.give.result ≡ get_or all i leaves.Null =
          c.give.ensures.value ∙ ap given c.index-kept-i.is ∙ sym (get_or-map given kept i c.index-kept-i.result leaves.Null c.loop-i-test.true) in
          let here : lent_leaf c.shown.result ≡ cond bit (get_or all i leaves.Null) leaves.Null =
          c.shown.ensures.value bits (length kept) c.loop-i-test.true m ∙ ap (λ (v : Leaf). cond bit v leaves.Null) item in
          ap (λ (b : Growing). b.values) c.in_ok-push_ref.ensures.ok
          ∙ ap (λ (vs : List Leaf). vs ++ lent_leaf c.shown.result ∷ []) (c.loop-i.invariant.values bits m)
          ∙ ap (λ (v : Leaf). take i (shown_values all bits) ++ v ∷ []) here
          ∙ sym (shown_more all bits i (omega arith) (omega arith));
    }

pub returns-clause-values : goal.returns-clause-values
returns-clause-values g c = λ bits m.
    let kept = c.args.kept.now in
    let all = map g.G.GivesValues.given kept in
    let long : length all ≡ length kept = length-map kept g.G.GivesValues.given in
    let wide : length bits ≡ length kept = mask_length c.args.mask (λ b. b.now) bits (length kept) m c.requires.mask in
    let whole : length (shown_values all bits) ≡ length all = length-shown all bits (omega arith) in
    let done : take c.loop-i.i (shown_values all bits) ≡ shown_values all bits = take_all c.loop-i.i (shown_values all bits) (omega arith) in
    let at_end : shown_values all bits ≡ c.loop-i.column.values = sym (c.loop-i.invariant.values bits m ∙ done) in
    rw at_end (search rules)

pub push_ref-requires : goal.push_ref-requires
push_ref-requires g c =
    let t = c.args.dtype in
    let is_of = g.G.GivesValues.is_of t in
    let kept = c.args.kept.now in
    rw c.loop-i.invariant.dtype (c.shown.ensures.fits t (c.give.ensures.fits t (subst is_of (sym c.index-kept-i.is) (c.requires.fit c.loop-i.i c.index-kept-i.result c.loop-i-test.true))))
