use Rattle.std.proofs.Common.{rules, ◌≡◌, ℕ, ◌<◌, ◌^◌, List, [], length, get_or, Some, sym, ap, ap₂, ◌∙◌, subst, arith}
use Rattle.key_parts.specs.Positions.{Position}
use Rattle.col_core.specs.declared.row_place.RowPlace.{RowPlace}
use Rattle.join_laws.specs.Partitions.{InPlaces}
use Rattle.join_tables.proofs.Extracted.{chunk_extracted, row_extracted, frame_inside, read_item}
use Rattle.join_tables.proofs.places.Places.build_row.Goals as goal

-- the position that the parts are those of, in the frames
module _ (frames : List (List (List ℕ))) (p chunk row : ℕ) (x : Position) (c : x.chunk ≡ chunk) (r : x.row ≡ row) where
  within : InPlaces frames p x → chunk < length frames
  within h = omega (arith, c, frame_inside frames p x h)

  read : InPlaces frames p x → (lists : List (List ℕ)) → lists ≡ get_or frames chunk lists → lists ≡ get_or frames x.chunk []
  read h lists e = read_item frames chunk lists [] e (within h) ∙ ap (λ k. get_or frames k []) (sym c)

pub index-requires : goal.index-requires
index-requires c =
    let x = c.requires.0 in
    let small : c.extract-frame.result.0 < 2 ^ 32 = search rules in
    let at = c.extract-frame.ensures ∙ c.requires.1 in
    let h = within c.self.inside.frames.items c.args.partition c.extract-frame.result.0 c.extract-frame.result.1 x (chunk_extracted c.extract-frame.result.0 c.extract-frame.result.1 x small at) (row_extracted c.extract-frame.result.0 c.extract-frame.result.1 x small at) (subst (λ (fs : List (List (List ℕ))). InPlaces fs c.args.partition x) (sym c.self.view_is) c.requires.2) in
    search rules

pub row-requires : goal.row-requires
row-requires c =
    let x = c.requires.0 in
    let small : c.extract-frame.result.0 < 2 ^ 32 = search rules in
    let at = c.extract-frame.ensures ∙ c.requires.1 in
    let row = row_extracted c.extract-frame.result.0 c.extract-frame.result.1 x small at in
    let inside = subst (λ (fs : List (List (List ℕ))). InPlaces fs c.args.partition x) (sym c.self.view_is) c.requires.2 in
    let lists = read c.self.inside.frames.items c.args.partition c.extract-frame.result.0 c.extract-frame.result.1 x (chunk_extracted c.extract-frame.result.0 c.extract-frame.result.1 x small at) row inside c.index.result.now c.index.ensures in
    omega (arith, row, ap (λ (ls : List (List ℕ)). length (get_or ls c.args.partition [])) lists, inside)

pub returns : goal.returns
returns c = λ x e.
    let y = c.requires.0 in
    let small : c.extract-frame.result.0 < 2 ^ 32 = search rules in
    let at = c.extract-frame.ensures ∙ e in
    let chunk = chunk_extracted c.extract-frame.result.0 c.extract-frame.result.1 x small at in
    let row = row_extracted c.extract-frame.result.0 c.extract-frame.result.1 x small at in
    let same : y ≡ x = some_same y x (sym c.requires.1 ∙ e) in
    let inside = subst (λ (fs : List (List (List ℕ))). InPlaces fs c.args.partition x) (sym c.self.view_is) (subst (λ (z : Position). InPlaces c.args.self.now c.args.partition z) same c.requires.2) in
    let lists = read c.self.inside.frames.items c.args.partition c.extract-frame.result.0 c.extract-frame.result.1 x chunk row inside c.index.result.now c.index.ensures in
    ap₂ (λ (f r : ℕ). place f r) (sym chunk) (c.row.ensures ∙ ap₂ (λ (ls : List (List ℕ)) (k : ℕ). get_or (get_or ls c.args.partition []) k 0) (lists ∙ ap (λ (fs : List (List (List ℕ))). get_or fs x.chunk []) c.self.view_is) (sym row))
  where
    some_same : (y x : Position) → Some y ≡ Some x → y ≡ x
    some_same y x e = cc

    place : ℕ → ℕ → RowPlace
    place f r = record { frame = f; row = r }
