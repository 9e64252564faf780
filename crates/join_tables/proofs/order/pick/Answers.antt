use Rattle.std.proofs.Common.{rules, ◌≡◌, ℕ, ◌<◌, ◌^◌, List, [], map, length, get_or, Some, sym, ap, ap₂, ◌∙◌, arith, Vec, Global}
use Rattle.std.proofs.lemmas.List.{get_or-map, length-map}
use Rattle.key_parts.specs.Positions.{Position}
use Rattle.join_laws.specs.declared.Pair.{Pair}
use Rattle.join_laws.specs.Partitions.{no_pair}
use Rattle.join_tables.proofs.Extracted.{chunk_extracted, row_extracted, list_inside, read_item}
use Rattle.join_tables.proofs.order.pick.Goals as goal

abbrev pits : Vec Pair Global → List Pair
pits v = v.items

pub bounds-found-partition : goal.bounds-found-partition
bounds-found-partition c =
    let x = c.requires.0 in
    let small : c.extract-partition.result.0 < 2 ^ 32 = search rules in
    let chunk = chunk_extracted c.extract-partition.result.0 c.extract-partition.result.1 x small (c.extract-partition.ensures ∙ c.requires.1) in
    omega (arith, chunk, list_inside (map pits c.args.found.now) x.chunk x.row c.requires.2, length-map c.args.found.now pits)

-- the pairs of a partition
list_here : (found : List (Vec Pair Global)) (p : ℕ) (v : Vec Pair Global) → v ≡ get_or found p v → p < length found → get_or (map pits found) p [] ≡ v.items
list_here found p v e h = get_or-map pits found p v [] h ∙ sym (ap pits e)

pub index-requires : goal.index-requires
index-requires c =
    let x = c.requires.0 in
    let small : c.extract-partition.result.0 < 2 ^ 32 = search rules in
    let at = c.extract-partition.ensures ∙ c.requires.1 in
    let chunk = chunk_extracted c.extract-partition.result.0 c.extract-partition.result.1 x small at in
    let row = row_extracted c.extract-partition.result.0 c.extract-partition.result.1 x small at in
    let inside : c.extract-partition.result.0 < length c.args.found.now = omega (arith, chunk, list_inside (map pits c.args.found.now) x.chunk x.row c.requires.2, length-map c.args.found.now pits) in
    let list = list_here c.args.found.now c.extract-partition.result.0 c.index-found-partition.result c.index-found-partition.is inside in
    let long : c.extract-partition.result.1 < length c.index-found-partition.result.items = omega (arith, row, ap length list, ap (λ k. length (get_or (map pits c.args.found.now) k [])) chunk, c.requires.2) in
    search rules

pub returns : goal.returns
returns c = λ x e.
    let small : c.extract-partition.result.0 < 2 ^ 32 = search rules in
    let at = c.extract-partition.ensures ∙ e in
    let chunk = chunk_extracted c.extract-partition.result.0 c.extract-partition.result.1 x small at in
    let row = row_extracted c.extract-partition.result.0 c.extract-partition.result.1 x small at in
    let y = c.requires.0 in
    let same : y ≡ x = some_same y x (sym c.requires.1 ∙ e) in
    let inside : c.extract-partition.result.0 < length c.args.found.now = omega (arith, chunk, ap (λ (z : Position). z.chunk) same, list_inside (map pits c.args.found.now) y.chunk y.row c.requires.2, length-map c.args.found.now pits) in
    let list = list_here c.args.found.now c.extract-partition.result.0 c.index-found-partition.result c.index-found-partition.is inside in
    let long : c.extract-partition.result.1 < length c.index-found-partition.result.items = omega (arith, row, ap (λ (z : Position). z.row) same, ap length list, ap (λ k. length (get_or (map pits c.args.found.now) k [])) chunk, ap (λ (z : Position). length (get_or (map pits c.args.found.now) z.chunk [])) same, c.requires.2) in
    read_item c.index-found-partition.result.items c.extract-partition.result.1 c.index.result.now no_pair c.index.ensures long
    ∙ ap₂ (λ (qs : List Pair) (k : ℕ). get_or qs k no_pair) (sym list ∙ ap (λ k. get_or (map pits c.args.found.now) k []) (sym chunk)) (sym row)
  where
    some_same : (y x : Position) → Some y ≡ Some x → y ≡ x
    some_same y x e = cc
