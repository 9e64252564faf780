-- Lists that stand one behind the other, and their starts.
use Rattle.std.proofs.Common.{◌≡◌, ℕ, zero, suc, ◌+◌, ◌-◌, ◌<◌, ◌≤◌, eqb, List, [], ◌∷◌, ◌++◌, map, flat_map, length, get_or, take, drop, refl, sym, ap, ap₂, ◌∙◌, subst, inl, inr, append-nil, append_assoc, arith}
use Rattle.std.specs.List.{range_with_len, slice_range}
use Rattle.std.proofs.lemmas.Bool.{cases_lt}
use Rattle.std.proofs.lemmas.List.{length-append, length-map, take_at, drop_at, get_or-drop, get_or-take, take_more, length-drop}
use Rattle.std.proofs.lemmas.List.Folds.{flat_map-map}
use Rattle.std.proofs.lemmas.List.FromFn.{get_or-map-range_with_len, length-map-range_with_len}
use Rattle.list_laws.proofs.Lists.{flat, flat_more, flat_rest, get_or_past, made_same, take_map, take_within}
use Rattle.list_laws.specs.Cuts.{cut}

-- an item of a piece stands at its number behind the piece's start
pub cut_item : (starts rows : List ℕ) (p r : ℕ) → r < length (get_or (cut starts rows) p []) → (p < length starts) × (get_or starts p 0 + r < length rows) × (get_or rows (get_or starts p 0 + r) 0 ≡ get_or (get_or (cut starts rows) p []) r 0)
cut_item starts rows p r h = elim (cases_lt p (length starts - 1)) [
  | inl less ↦
      let a = get_or starts p 0 in
      let b = get_or starts (p + 1) 0 in
      let piece : get_or (cut starts rows) p [] ≡ slice_range rows a b = get_or-map-range_with_len (λ k. slice_range rows (get_or starts k 0) (get_or starts (k + 1) 0)) 0 (length starts - 1) p p [] less (omega arith) in
      let long : r < length (take (b - a) (drop a rows)) = rw piece at h in
      let w = take_within (b - a) (drop a rows) r long in
      let d = length-drop a rows in
      (omega arith, omega arith, sym (ap (λ (l : List ℕ). get_or l r 0) piece ∙ get_or-take (b - a) (drop a rows) r 0 w.0 ∙ get_or-drop a rows r 0))
  | inr past ↦
      let none : get_or (cut starts rows) p [] ≡ [] = get_or_past (cut starts rows) p [] (omega (arith, length-map-range_with_len (λ k. slice_range rows (get_or starts k 0) (get_or starts (k + 1) 0)) 0 (length starts - 1))) in
      absurd (let l : r < length {A = ℕ} [] = rw none at h in omega arith)
]

abbrev pub starts_of : List (List ℕ) → ℕ → List ℕ
starts_of ls n = map (λ j. length (flat (take j ls))) (range_with_len 0 n)

cut_piece : (ls : List (List ℕ)) (p : ℕ) → p < length ls → slice_range (flat ls) (length (flat (take p ls))) (length (flat (take (p + 1) ls))) ≡ get_or ls p []
cut_piece ls p h =
    let r = flat_rest ls (p + 1) in
    let front = flat (take p ls) in
    let piece = get_or ls p [] in
    let whole : flat ls ≡ front ++ (piece ++ r.0) = r.1 ∙ ap (λ t. t ++ r.0) (flat_more ls p h) ∙ append_assoc front piece r.0 in
    let long : length (flat (take (p + 1) ls)) - length front ≡ length piece = omega (arith, ap length (flat_more ls p h), length-append front piece) in
    ap₂ (λ (n : ℕ) (t : List ℕ). take n (drop (length front) t)) long whole
    ∙ ap (take (length piece)) (drop_at front (piece ++ r.0) (length front) refl)
    ∙ take_at piece r.0 (length piece) refl

-- cut at their starts, they are the lists
pub cut_lists : (ls : List (List ℕ)) → cut (starts_of ls (length ls + 1)) (flat ls) ≡ ls
cut_lists ls =
    ap (λ n. map (λ k. slice_range (flat ls) (get_or (starts_of ls (length ls + 1)) k 0) (get_or (starts_of ls (length ls + 1)) (k + 1) 0)) (range_with_len 0 n)) (let l = length-map-range_with_len (λ j. length (flat (take j ls))) 0 (length ls + 1) in let e : length (starts_of ls (length ls + 1)) - 1 ≡ length ls = omega arith in e)
    ∙ made_same _ (length ls) ls [] refl (λ k l.
    ap₂ (λ (a b : ℕ). slice_range (flat ls) a b)
    (get_or-map-range_with_len (λ j. length (flat (take j ls))) 0 (length ls + 1) k k 0 (omega arith) (omega arith))
    (get_or-map-range_with_len (λ j. length (flat (take j ls))) 0 (length ls + 1) (k + 1) (k + 1) 0 (omega arith) (omega arith))
    ∙ cut_piece ls k l)

-- the same of lists that are made
pub cut_made : {X : Type 0} (f : X → List ℕ) (xs : List X) → cut (map (λ j. length (flat_map f (take j xs))) (range_with_len 0 (length xs + 1))) (flat_map f xs) ≡ map f xs
cut_made f xs =
    ap₂ (λ (n : ℕ) (g : ℕ → ℕ). cut (map g (range_with_len 0 (n + 1))) (flat_map f xs)) (sym (length-map xs f)) refl
    ∙ ap₂ cut (made (range_with_len 0 (length (map f xs) + 1))) (sym (flat_map-map (λ l. l) f xs))
    ∙ cut_lists (map f xs)
  where
    made : (ns : List ℕ) → map (λ j. length (flat_map f (take j xs))) ns ≡ map (λ j. length (flat (take j (map f xs)))) ns
    made [] = refl
    made (n ∷ ns) = ap₂ (λ a t. a ∷ t) (ap length (sym (flat_map-map (λ l. l) f (take n xs))) ∙ ap (λ t. length (flat t)) (sym (take_map f n xs))) (made ns)
