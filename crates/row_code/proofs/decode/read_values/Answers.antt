use Rattle.std.proofs.Common.{◌≡◌, ◌<◌, ◌∙◌, [], ◌∷◌, ℕ, List, length, map, true, false, ap, sym, subst, Bor}
use Rattle.std.proofs.lemmas.List.{map-append, length-map, get_or-map}
use Rattle.col_core.specs.declared.data_type.DataType.{DataType}
use Rattle.col_core.specs.declared.leaf.Leaf.{Leaf}
use Rattle.col_core.specs.Lent.{lent_leaf}
use Rattle.col_core.specs.Tables.{Growing}
use Rattle.row_code.specs.Spelling.{ValueInFront, HasValueInFront}
use Rattle.row_code.proofs.Decoded.{read_next}
use Rattle.row_code.proofs.decode.read_values.Goals as goal

found_none : (t : DataType) (bytes : List ℕ) → HasValueInFront t bytes → ((v : Leaf) (rest : List ℕ) → ValueInFront t v rest bytes → false ≡ true) → ⊥
found_none t bytes has none = let e = none has.0 has.1 has.2 in cc

pub unreachable-requires : goal.unreachable-requires
unreachable-requires c = found_none c.args.field.now.dtype _ (c.requires.some c.loop-row.row-index _ c.loop-row-test.true) c.in-None.ensures.all

pub loop-row-preserved : goal.loop-row-preserved
loop-row-preserved c =
    let rows = c.args.rows.now in
    let i = c.loop-row.row-index in
    let f = c.args.field.now in
    let shown = λ (b : Bor (List ℕ)). b.now in
    let below : i < length (map shown rows) = subst (λ (n : ℕ). i < n) (sym (length-map rows shown)) c.loop-row-test.true in
    record {
      dtype = ap (λ (g : Growing). g.dtype) c.in_ok-push_ref-in-Some.ensures.ok ∙ c.loop-row.invariant.dtype;
      read = λ fields whole are same.
          let before = c.loop-row.invariant.read fields whole are same in
          read_next f fields whole (map shown rows) i (lent_leaf c.in-Some.value) c.in-Some.rest.now c.loop-row.values.values c.push_ref.new.self.values (map shown c.loop-row.rests.items) (map shown c.push.new.self.items) are same below
          (subst (ValueInFront f.dtype (lent_leaf c.in-Some.value) c.in-Some.rest.now) (sym (get_or-map shown rows i _ [] c.loop-row-test.true)) c.in-Some.ensures.found)
          before.0 before.1
          (ap (λ (g : Growing). g.values) c.in_ok-push_ref-in-Some.ensures.ok)
          (ap (map shown) c.in_ok-push-in-Some.ensures.items ∙ map-append shown c.loop-row.rests.items (c.in-Some.rest ∷ []));
    }
