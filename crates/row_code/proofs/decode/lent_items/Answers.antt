use Rattle.std.proofs.Common.{◌≡◌, ◌<◌, ◌∙◌, [], ◌∷◌, ℕ, Bool, List, length, map, ap, sym, subst, Bor}
use Rattle.std.proofs.lemmas.List.{map-append, length-map}
use Rattle.col_arrays.specs.Items.{stored}
use Rattle.row_code.proofs.Decoded.{items_more}
use Rattle.row_code.proofs.decode.lent_items.Goals as goal

pub loop-i-preserved : goal.loop-i-preserved
loop-i-preserved c =
    let items = c.args.items.now in
    let shown = λ (b : Bor (List ℕ)). b.now in
    let long : length (stored items) ≡ length items = length-map items (λ (item : List ℕ × Bool). item.0) in
    let within : c.loop-i.i < length items = subst (λ (n : ℕ). c.loop-i.i < n) c.len-i-end.ensures.len c.loop-i-test.true in
    let below : c.loop-i.i < length (stored items) = subst (λ (n : ℕ). c.loop-i.i < n) (sym long) within in
    items_more (stored items) c.loop-i.i c.value.result.now (map shown c.loop-i.lent.items) (map shown c.push.new.self.items) below c.value.ensures c.loop-i.invariant
    (ap (map shown) c.in_ok-push.ensures.items ∙ map-append shown c.loop-i.lent.items (c.value.result ∷ []))
