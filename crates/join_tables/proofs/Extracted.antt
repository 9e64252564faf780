-- The chunk and the row that an id was taken apart into.
use Rattle.std.proofs.Common.{◌≡◌, ℕ, ◌+◌, ◌-◌, ◌*◌, ◌/◌, ◌%◌, ◌^◌, ◌<◌, ◌==◌, Bool, true, false, cond, List, [], length, get_or, Option, Some, None, ap, subst, ◌∙◌, inl, inr, arith}
use Rattle.std.proofs.lemmas.Bool.{cases_lt}
use Rattle.std.proofs.lemmas.List.{get_or_default, get_or_past}
use Rattle.key_parts.specs.Positions.{Position, position_of}
use Rattle.join_laws.specs.Partitions.{InPlaces}

module _ (chunk row : ℕ) (x : Position) where
  abbrev word : ℕ
  word = row * 2 ^ 32 + chunk

  abbrev parts : Bool → Option Position
  parts greatest = cond greatest None (Some (record { chunk = word % 2 ^ 32; row = word / 2 ^ 32 }))

  pub chunk_extracted : chunk < 2 ^ 32 → position_of (row * 2 ^ 32 + chunk) ≡ Some x → x.chunk ≡ chunk
  unfolding position_of
  chunk_extracted below is = named (word == 2 ^ 64 - 1) is
    where
      named : (greatest : Bool) → parts greatest ≡ Some x → x.chunk ≡ chunk
      named true e = cc
      named false e = let same : record { chunk = word % 2 ^ 32; row = word / 2 ^ 32 } ≡ x = cc in let chunks : word % 2 ^ 32 ≡ x.chunk = ap (λ (q : Position). q.chunk) same in omega arith

  pub row_extracted : chunk < 2 ^ 32 → position_of (row * 2 ^ 32 + chunk) ≡ Some x → x.row ≡ row
  unfolding position_of
  row_extracted below is = named (word == 2 ^ 64 - 1) is
    where
      named : (greatest : Bool) → parts greatest ≡ Some x → x.row ≡ row
      named true e = cc
      named false e = let same : record { chunk = word % 2 ^ 32; row = word / 2 ^ 32 } ≡ x = cc in let rows : word / 2 ^ 32 ≡ x.row = ap (λ (q : Position). q.row) same in omega arith

nothing_inside : (X : Type 0) (r : ℕ) → r < length {A = X} [] → ⊥
nothing_inside X r h = omega arith

-- a list that has an item is one of the lists
pub list_inside : {X : Type 0} (lists : List (List X)) (k r : ℕ) → r < length (get_or lists k []) → k < length lists
list_inside {X} lists k r h = elim (cases_lt k (length lists)) [
  | inl less ↦ less
  | inr past ↦ absurd (nothing_inside X r (subst (λ (xs : List X). r < length xs) (get_or_past lists k [] past) h))
]

-- a position that has a build row is in one of the frames
pub frame_inside : (places : List (List (List ℕ))) (p : ℕ) (x : Position) → InPlaces places p x → x.chunk < length places
frame_inside places p x h = elim (cases_lt x.chunk (length places)) [
  | inl less ↦ less
  | inr past ↦ absurd (nothing_inside ℕ x.row (subst (λ (ls : List (List ℕ)). x.row < length (get_or ls p [])) (get_or_past places x.chunk [] past) h))
]

-- an item that is read with a default of its own
pub read_item : {X : Type 0} (xs : List X) (i : ℕ) (x d : X) → x ≡ get_or xs i x → i < length xs → x ≡ get_or xs i d
read_item xs i x d e h = e ∙ get_or_default xs i x d h
