-- Small laws on lists.
use Rattle.std.proofs.Common.{◌≡◌, ℕ, zero, suc, ◌+◌, ◌-◌, ◌<◌, ◌≤◌, eqb, min, Bool, true, false, not, ◌&&◌, ◌||◌, cond, List, [], ◌∷◌, ◌++◌, map, filter, flat_map, fold, length, get_or, take, drop, zip, slice_set, replicate, refl, sym, ap, ap₂, ◌∙◌, subst, inl, inr, append-nil, append_assoc, arith}
use Rattle.std.specs.List.{list_any, range_with_len, slice_range, All}
use Rattle.std.proofs.lemmas.Bool.{cases_lt}
use Rattle.std.proofs.lemmas.List.{length-append, length-map, take_at, drop_at, get_or-drop, get_or-take, take_more, length-drop}
use Rattle.std.proofs.lemmas.List.Concat.{flat_map-append}
use Rattle.std.proofs.lemmas.List.Folds.{flat_map-map}
use Rattle.std.proofs.lemmas.List.FromFn.{get_or-map-range_with_len, length-map-range_with_len, length-range_with_len}
use Rattle.list_laws.proofs.Maps.{read_all}
use Rattle.list_laws.proofs.Ranges.{Each-range}
use Rattle.list_laws.specs.Each.{Each}

pub get_or_past : {X : Type 0} (xs : List X) (i : ℕ) (d : X) → length xs ≤ i → get_or xs i d ≡ d
get_or_past [] i d h = refl
get_or_past (x ∷ xs) zero d h = absurd (omega arith)
get_or_past (x ∷ xs) (suc i) d h = get_or_past xs i d (omega arith)

pub take_within : {X : Type 0} (n : ℕ) (xs : List X) (r : ℕ) → r < length (take n xs) → (r < n) × (r < length xs)
take_within zero xs r h = absurd (omega arith)
take_within (suc n) [] r h = absurd (omega arith)
take_within (suc n) (x ∷ xs) zero h = (omega arith, omega arith)
take_within (suc n) (x ∷ xs) (suc r) h = let rest = take_within n xs r (omega arith) in (omega arith, omega arith)

pub map_same : {A B : Type 0} (f g : A → B) (xs : List A) → Each (λ a. f a ≡ g a) xs → map f xs ≡ map g xs
map_same f g [] h = refl
map_same f g (x ∷ xs) h = ap₂ (λ b bs. b ∷ bs) h.0 (map_same f g xs h.1)

-- a list made by number, and another with the same items
pub made_same : {X : Type 0} (f : ℕ → X) (n : ℕ) (xs : List X) (d : X) → length xs ≡ n → ((k : ℕ) → k < n → f k ≡ get_or xs k d) → map f (range_with_len 0 n) ≡ xs
made_same f n xs d e h = map_same f (λ k. get_or xs k d) (range_with_len 0 n) (Each-range _ 0 n (λ k l m. h k (omega arith))) ∙ ap (λ m. map (λ k. get_or xs k d) (range_with_len 0 m)) (sym e) ∙ read_all xs d

pub take_map : {A B : Type 0} (f : A → B) (n : ℕ) (xs : List A) → take n (map f xs) ≡ map f (take n xs)
take_map f zero xs = refl
take_map f (suc n) [] = refl
take_map f (suc n) (x ∷ xs) = ap (λ t. f x ∷ t) (take_map f n xs)

-- one more number
pub range_more : (a n : ℕ) → range_with_len a (n + 1) ≡ range_with_len a n ++ (a + n) ∷ []
range_more a zero = ap (λ k. k ∷ []) (let e : a ≡ a + 0 = omega arith in e)
range_more a (suc n) =
    ap (range_with_len a) (let e : suc n + 1 ≡ suc (n + 1) = omega arith in e)
    ∙ ap (λ t. a ∷ t) (range_more (a + 1) n ∙ ap (λ k. range_with_len (a + 1) n ++ k ∷ []) (let e : a + 1 + n ≡ a + suc n = omega arith in e))

abbrev pub flat : List (List ℕ) → List ℕ
flat ls = flat_map (λ l. l) ls

pub flat_more : (ls : List (List ℕ)) (p : ℕ) → p < length ls → flat (take (p + 1) ls) ≡ flat (take p ls) ++ get_or ls p []
flat_more ls p h = ap flat (take_more ls p [] h) ∙ flat_map-append (λ l. l) (take p ls) (get_or ls p [] ∷ []) ∙ ap (λ t. flat (take p ls) ++ t) (append-nil (get_or ls p []))

pub flat_rest : (ls : List (List ℕ)) (n : ℕ) → (rest : List ℕ) × (flat ls ≡ flat (take n ls) ++ rest)
flat_rest ls zero = (flat ls, refl)
flat_rest [] (suc n) = ([], refl)
flat_rest (l ∷ ls) (suc n) = let r = flat_rest ls n in (r.0, ap (λ t. l ++ t) r.1 ∙ sym (append_assoc l (flat (take n ls)) r.0))

-- one more of the pieces
pub flat_map_more : {X A : Type 0} (f : X → List A) (xs : List X) (i : ℕ) (x : X) → x ≡ get_or xs i x → i < length xs → flat_map f (take (i + 1) xs) ≡ flat_map f (take i xs) ++ f x
flat_map_more f xs i x e h = ap (flat_map f) (take_more xs i x h) ∙ flat_map-append f (take i xs) (get_or xs i x ∷ []) ∙ ap (λ t. flat_map f (take i xs) ++ t) (append-nil (f (get_or xs i x)) ∙ ap f (sym e))

-- a front is no longer than the whole
pub flat_map_front : {X A : Type 0} (f : X → List A) (xs : List X) (i : ℕ) → length (flat_map f (take i xs)) ≤ length (flat_map f xs)
flat_map_front f xs zero = omega arith
flat_map_front f [] (suc i) = omega arith
flat_map_front f (x ∷ xs) (suc i) = let r = flat_map_front f xs i in let a = length-append (f x) (flat_map f (take i xs)) in let b = length-append (f x) (flat_map f xs) in omega arith

pub range_upto : (n : ℕ) → range_with_len 0 (n + 1) ≡ range_with_len 0 n ++ n ∷ []
range_upto n = range_more 0 n ∙ ap (λ k. range_with_len 0 n ++ k ∷ []) (let e : 0 + n ≡ n = omega arith in e)

-- an item that is written, and the others
pub set_here : {X Y : Type 0} (f : X → Y) (xs : List X) (p : ℕ) (y : X) (d : Y) → p < length xs → get_or (map f (slice_set xs p y)) p d ≡ f y
set_here f [] p y d h = absurd (omega arith)
set_here f (x ∷ xs) zero y d h = refl
set_here f (x ∷ xs) (suc p) y d h = set_here f xs p y d (omega arith)

pub set_other : {X Y : Type 0} (f : X → Y) (xs : List X) (p q : ℕ) (y : X) (d : Y) → (q ≡ p → ⊥) → get_or (map f (slice_set xs p y)) q d ≡ get_or (map f xs) q d
set_other f [] p q y d h = refl
set_other f (x ∷ xs) zero zero y d h = absurd (h refl)
set_other f (x ∷ xs) zero (suc q) y d h = refl
set_other f (x ∷ xs) (suc p) zero y d h = refl
set_other f (x ∷ xs) (suc p) (suc q) y d h = set_other f xs p q y d (λ e. h (ap suc e))

-- what is written back through a slice of a whole vector
pub slice_back : {X : Type 0} (n : ℕ) (new old : List X) → length new ≡ n → take n (new ++ drop (length new) old) ≡ new
slice_back n new old e = take_at new (drop (length new) old) n e

pub map_const : {X : Type 0} (x : X) (a n : ℕ) → map (λ k. x) (range_with_len a n) ≡ replicate n x
map_const x a zero = refl
map_const x a (suc n) = ap (λ t. x ∷ t) (map_const x (a + 1) n)
