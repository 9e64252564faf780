-- Ids that all stand for positions.
use Rattle.std.proofs.Common.{◌≡◌, ℕ, ◌+◌, ◌<◌, List, ◌∷◌, [], ◌++◌, map, length, get_or, take, Option, Some, None, sym, ap, ◌∙◌, arith}
use Rattle.std.proofs.lemmas.List.{get_or-map, length-map, map-append, take_more}
use Rattle.key_parts.specs.declared.chunk_id.ChunkId.{ChunkId}
use Rattle.key_parts.specs.Positions.{Position, position}

abbrev pub no_position : Position
no_position = record { chunk = 0; row = 0 }

pub positions_long : (ids : List ChunkId) (xs : List Position) → map position ids ≡ map (λ x. Some x) xs → length ids ≡ length xs
positions_long ids xs e = sym (length-map ids position) ∙ ap length e ∙ length-map xs (λ x. Some x)

-- the position of an id
pub position_here : (ids : List ChunkId) (xs : List Position) (k : ℕ) (d : ChunkId) → map position ids ≡ map (λ x. Some x) xs → k < length ids → position (get_or ids k d) ≡ Some (get_or xs k no_position)
position_here ids xs k d e h =
    sym (get_or-map position ids k d None h) ∙ ap (λ (l : List (Option Position)). get_or l k None) e ∙ get_or-map (λ (x : Position). Some x) xs k no_position None (omega (arith, positions_long ids xs e))

-- what is made of one position more
pub made_more : {B : Type 0} (f : Position → B) (xs : List Position) (k : ℕ) → k < length xs → map f (take (k + 1) xs) ≡ map f (take k xs) ++ f (get_or xs k no_position) ∷ []
made_more f xs k h = ap (map f) (take_more xs k no_position h) ∙ map-append f (take k xs) (get_or xs k no_position ∷ [])
