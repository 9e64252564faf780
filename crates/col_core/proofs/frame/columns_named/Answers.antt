use Rattle.std.proofs.Common.{◌≡◌, ◌∙◌, [], ◌∷◌, ◌++◌, length, ap, sym, subst, refl, List, rules, arith}
use Rattle.std.specs.Vec.Iter.{into_iter_items}
use Rattle.std.specs.List.{All}
use Rattle.std.proofs.lemmas.List.Elements.{All-push}
use Rattle.col_core.specs.Tables.{Column}
use Rattle.col_core.specs.Values.{Fits}
use Rattle.col_core.proofs.Named.{IsNamed, named, named_more, named_headers, named_values}
use Rattle.col_core.proofs.frame.columns_named.Goals as goal

nothing_left : (l : List Column) → length l ≡ 0 → l ≡ []
nothing_left [] h = refl
nothing_left (x ∷ xs) h = absurd (omega arith)

pub loop-column-preserved : goal.loop-column-preserved
loop-column-preserved c =
    let schema = c.args.schema.now in
    let columns = c.args.columns.items in
    let done = c.loop-column.named.items in
    let rest = into_iter_items c.next.new.self in
    let left : into_iter_items c.loop-column.column-iterator ≡ c.in-Some.column ∷ rest = search rules in
    let before : IsNamed schema columns done (c.in-Some.column ∷ rest) = subst (IsNamed schema columns done) left c.loop-column.invariant.named in
    let pushed : c.push.new.self.items ≡ done ++ named c.in-Some.column c.field-field.result.now ∷ [] = search rules in
    let AllFit : Column → Type 0 = λ x. All (Fits x.dtype) x.values in
    let one = named c.in-Some.column c.field-field.result.now in
    let fits : AllFit one = search rules in
    record {
      named = rw pushed (named_more schema columns done rest c.in-Some.column c.field-field.result.now (search rules) before);
      fits = rw pushed (All-push AllFit done one c.loop-column.invariant.fits fits);
      counted = let short = ap length left in let gone = c.in-Some.ensures.steps.1 in let was = c.loop-column.invariant.counted in omega arith;
    }

pub returns-clause-headers : goal.returns-clause-headers
returns-clause-headers c =
    let left = nothing_left (into_iter_items c.loop-column.column-iterator) (sym c.loop-column.invariant.counted ∙ c.in-None.ensures.steps.0) in
    named_headers _ _ _ c.requires.types (rw left at c.loop-column.invariant.named)

pub returns-clause-values : goal.returns-clause-values
returns-clause-values c =
    let left = nothing_left (into_iter_items c.loop-column.column-iterator) (sym c.loop-column.invariant.counted ∙ c.in-None.ensures.steps.0) in
    named_values _ _ _ c.requires.types (rw left at c.loop-column.invariant.named)
