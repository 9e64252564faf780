-- Rows dealt to lists, and hashes to sketches.
use Rattle.std.proofs.Common.{◌≡◌, ℕ, ◌+◌, ◌<◌, ◌==◌, Bool, true, false, cond, List, [], ◌∷◌, ◌++◌, map, filter, length, get_or, set, Some, None, inl, inr, refl, sym, ap, ap₂, subst, ◌∙◌, arith, zero-add, Result, Ok, Err, OnErr, IfSome}
use Rattle.std.specs.List.{range_with_len, flat_map}
use Rattle.std.proofs.lemmas.Bool.{cases_eq, ne_eqb}
use Rattle.hash_keys.proofs.Ranges.{range-more, eqb-same}
use Rattle.std.proofs.lemmas.List.{map-set, get_or-set_same, get_or-set_other, get_or-map, append-nil, ext_get_or, length-map}
use Rattle.std.proofs.Math.Seq.{map-set_same}
use Rattle.std.proofs.lemmas.List.Elements.{filter-append}
use Rattle.std.proofs.lemmas.List.Sums.{fold-append}
use Rattle.std.proofs.lemmas.List.FromFn.{get_or-map-range_with_len, length-map-range_with_len}
use Rattle.std.proofs.lemmas.Grind.{flat_map-append}
use Rattle.key_parts.specs.declared.hash.PlRandomState.{PlRandomState}
use Rattle.key_parts.specs.Hashes.{hash_of}
use Rattle.key_parts.specs.Sketches.{with_hash, with_hashes}
use Rattle.hash_keys.specs.Keys.{Key, key_at}
use Rattle.hash_keys.specs.Dealt.{goes_to, dealt_front, deals_front, hash_in, sketched_front}

-- one list of a list of lists gains something
pub set_pushed : (xs : List (List ℕ)) (q p : ℕ) (y t : List ℕ) → q < length xs → y ≡ get_or xs q [] ++ t
    → get_or (set xs q y) p [] ≡ get_or xs p [] ++ cond (q == p) t []
set_pushed xs q p y t below e = elim (cases_eq p q) [
  | inl same ↦
      let P : ℕ → Type 0 = λ r. get_or (set xs q y) r [] ≡ get_or xs r [] ++ cond (q == r) t [] in
      let here : P q = get_or-set_same xs q y [] below ∙ e ∙ ap (λ (b : Bool). get_or xs q [] ++ cond b t []) (sym (eqb-same q)) in
      subst P (sym same) here
  | inr other ↦
      get_or-set_other xs q p y [] other
      ∙ sym (ap (λ (b : Bool). get_or xs p [] ++ cond b t []) (ne_eqb q p (λ same. other (sym same))) ∙ append-nil (get_or xs p []))
]

pub pushed_at : {A : Type 0} (f : A → List ℕ) (lists : List A) (q p row : ℕ) (d new : A)
    → q < length lists → f new ≡ f (get_or lists q d) ++ row ∷ []
    → get_or (map f (set lists q new)) p [] ≡ get_or (map f lists) p [] ++ cond (q == p) (row ∷ []) []
pushed_at f lists q p row d new below e =
    let long : q < length (map f lists) = omega (arith, length-map lists f) in
    let read : get_or (map f lists) q [] ≡ f (get_or lists q d) = get_or-map f lists q d [] below in
    ap (λ (l : List (List ℕ)). get_or l p []) (map-set f lists q new)
    ∙ set_pushed (map f lists) q p (f new) (row ∷ []) long (e ∙ ap (λ (l : List ℕ). l ++ row ∷ []) (sym read))

-- a list that is written as it was
pub unchanged_at : {A E X : Type 0} (r : Result X E) (f : A → List ℕ) (lists : List A) (q : ℕ) (d new : A)
    → f new ≡ f (get_or lists q d) → OnErr r (map f (set lists q new) ≡ map f lists)
unchanged_at (Ok x) f lists q d new e = tt
unchanged_at (Err x) f lists q d new e = map-set_same f lists q new d e

-- one list more is empty
pub cleared_more : {A : Type 0} (f : A → List ℕ) (lists : List A) (i : ℕ) (new : A) → i < length lists → f new ≡ []
    → ((p : ℕ) → p < i → get_or (map f lists) p [] ≡ []) → (p : ℕ) → p < i + 1 → get_or (map f (set lists i new)) p [] ≡ []
cleared_more f lists i new below e h p under =
    let long : i < length (map f lists) = omega (arith, length-map lists f) in
    ap (λ (l : List (List ℕ)). get_or l p []) (map-set f lists i new) ∙ elim (cases_eq p i) [
      | inl same ↦
          let P : ℕ → Type 0 = λ r. get_or (set (map f lists) i (f new)) r [] ≡ [] in
          subst P (sym same) (get_or-set_same (map f lists) i (f new) [] long ∙ e)
      | inr other ↦ get_or-set_other (map f lists) i p (f new) [] other ∙ h p (omega arith)
    ]

-- whether a present key, or a null one, goes to a list
pub goes_present : (part : Key → ℕ) (nulls : Bool) (p i q : ℕ) (key : Key) (b : List ℕ) → Some b ≡ key → q ≡ part key
    → cond (q == p) (i ∷ []) [] ≡ cond (goes_to part nulls p key) (i ∷ []) []
goes_present part nulls p i q key b is e =
    let P : Key → Type 0 = λ k. cond (part k == p) (i ∷ []) [] ≡ cond (goes_to part nulls p k) (i ∷ []) [] in
    ap (λ (n : ℕ). cond (n == p) (i ∷ []) []) e ∙ subst P is refl

pub goes_null : (part : Key → ℕ) (p i q : ℕ) (key : Key) → None ≡ key → q ≡ part key
    → cond (q == p) (i ∷ []) [] ≡ cond (goes_to part true p key) (i ∷ []) []
goes_null part p i q key is e =
    let P : Key → Type 0 = λ k. cond (part k == p) (i ∷ []) [] ≡ cond (goes_to part true p k) (i ∷ []) [] in
    ap (λ (n : ℕ). cond (n == p) (i ∷ []) []) e ∙ subst P is refl

pub goes_nowhere : (part : Key → ℕ) (p i : ℕ) (key : Key) → None ≡ key → [] ≡ cond (goes_to part false p key) (i ∷ []) []
goes_nowhere part p i key is =
    let P : Key → Type 0 = λ k. [] ≡ cond (goes_to part false p k) (i ∷ []) [] in subst P is refl

pub hash_present : (part : Key → ℕ) (hash : List ℕ → ℕ) (p q h : ℕ) (key : Key) (b : List ℕ) → Some b ≡ key → q ≡ part key → h ≡ hash b
    → cond (q == p) (h ∷ []) [] ≡ hash_in part hash p key
hash_present part hash p q h key b is e f =
    let P : Key → Type 0 = λ k. cond (part k == p) (hash b ∷ []) [] ≡ hash_in part hash p k in
    ap₂ (λ (n : ℕ) (m : ℕ). cond (n == p) (m ∷ []) []) e f ∙ subst P is refl

pub hash_null : (part : Key → ℕ) (hash : List ℕ → ℕ) (p : ℕ) (build : Bool) (key : Key) → None ≡ key
    → [] ≡ cond build (hash_in part hash p key) []
hash_null part hash p build key is =
    let P : Key → Type 0 = λ k. [] ≡ cond build (hash_in part hash p k) [] in subst P is (elim build as (λ b. ◌≡◌ {A = List ℕ} [] (cond b [] [])) [ true ↦ refl | false ↦ refl ])

-- a row more
pub dealt_more : (part : Key → ℕ) (nulls : Bool) (keys : List Key) (i p : ℕ) (old new : List ℕ)
    → old ≡ dealt_front part nulls keys i p → new ≡ old ++ cond (goes_to part nulls p (key_at keys i)) (i ∷ []) []
    → new ≡ dealt_front part nulls keys (i + 1) p
dealt_more part nulls keys i p old new e f =
    let test : ℕ → Bool = λ j. goes_to part nulls p (key_at keys j) in
    let all : dealt_front part nulls keys (i + 1) p ≡ dealt_front part nulls keys i p ++ filter test (i ∷ []) =
    ap (filter test) (range-more i) ∙ filter-append test (range_with_len 0 i) (i ∷ []) in
    f ∙ ap (λ (l : List ℕ). l ++ filter test (i ∷ [])) e ∙ sym all

pub sketched_more : (f : ℕ → List ℕ) (i : ℕ) (sketch old new : List ℕ)
    → old ≡ with_hashes sketch (flat_map f (range_with_len 0 i)) → new ≡ with_hashes old (f i)
    → new ≡ with_hashes sketch (flat_map f (range_with_len 0 (i + 1)))
sketched_more f i sketch old new e g =
    let all : flat_map f (range_with_len 0 (i + 1)) ≡ flat_map f (range_with_len 0 i) ++ f i =
    ap (flat_map f) (range-more i) ∙ flat_map-append f (range_with_len 0 i) (i ∷ []) ∙ ap (λ (l : List ℕ). flat_map f (range_with_len 0 i) ++ l) (append-nil (f i)) in
    g ∙ ap (λ (l : List ℕ). with_hashes l (f i)) e
    ∙ sym (ap (with_hashes sketch) all ∙ fold-append with_hash sketch (flat_map f (range_with_len 0 i)) (f i))

-- all lists, and all sketches
pub all_dealt : (part : Key → ℕ) (nulls : Bool) (n : ℕ) (keys : List Key) (k : ℕ) (lists : List (List ℕ)) → length lists ≡ n
    → ((p : ℕ) → p < n → get_or lists p [] ≡ dealt_front part nulls keys k p) → lists ≡ deals_front part nulls n keys k
all_dealt part nulls n keys k lists long h =
    ext_get_or [] lists (deals_front part nulls n keys k) (long ∙ sym (length-map-range_with_len (dealt_front part nulls keys k) 0 n))
    (λ p below. h p (omega arith) ∙ sym (get_or-map-range_with_len (dealt_front part nulls keys k) 0 n p p [] (omega arith) (zero-add p)))

nothing_taken : (f : ℕ → List ℕ) (js : List ℕ) → ((j : ℕ) → f j ≡ []) → flat_map f js ≡ []
nothing_taken f [] h = refl
nothing_taken f (j ∷ js) h = ap₂ (λ (a : List ℕ) (b : List ℕ). a ++ b) (h j) (nothing_taken f js h)

pub all_sketched : (part : Key → ℕ) (hash : List ℕ → ℕ) (build : Bool) (keys : List Key) (k : ℕ) (olds news : List (List ℕ)) → length news ≡ length olds
    → ((p : ℕ) → p < length olds → get_or news p [] ≡ with_hashes (get_or olds p []) (flat_map (λ j. cond build (hash_in part hash p (key_at keys j)) []) (range_with_len 0 k)))
    → news ≡ cond build (sketched_front part hash olds keys k) olds
all_sketched part hash true keys k olds news long h =
    let sketch : ℕ → List ℕ = λ p. with_hashes (get_or olds p []) (flat_map (λ j. hash_in part hash p (key_at keys j)) (range_with_len 0 k)) in
    ext_get_or [] news (map sketch (range_with_len 0 (length olds))) (long ∙ sym (length-map-range_with_len sketch 0 (length olds)))
    (λ p below. h p (omega arith) ∙ sym (get_or-map-range_with_len sketch 0 (length olds) p p [] (omega arith) (zero-add p)))
all_sketched part hash false keys k olds news long h =
    ext_get_or [] news olds long
    (λ p below. h p (omega arith) ∙ ap (with_hashes (get_or olds p [])) (nothing_taken (λ j. []) (range_with_len 0 k) (λ j. refl)))

-- the hash beside a key that is present
pub hash_is : (state : PlRandomState) (key : Key) (b : List ℕ) (h : ℕ) → Some b ≡ key → IfSome key (λ k. h ≡ hash_of state k) → h ≡ hash_of state b
hash_is state key b h is e = let P : Key → Type 0 = λ key. IfSome key (λ k. h ≡ hash_of state k) in subst P (sym is) e

-- after want of memory some first rows are dealt
pub dealt_some : {X E : Type 0} (r : Result X E) (part : Key → ℕ) (nulls : Bool) (parts : ℕ) (keys : List Key) (hash : List ℕ → ℕ) (build : Bool) (lists olds news : List (List ℕ)) (k : ℕ)
    → k < length keys → lists ≡ deals_front part nulls parts keys k → news ≡ cond build (sketched_front part hash olds keys k) olds
    → OnErr r ((n : ℕ) × (n < length keys) × (lists ≡ deals_front part nulls parts keys n) × (news ≡ cond build (sketched_front part hash olds keys n) olds))
dealt_some (Ok x) part nulls parts keys hash build lists olds news k below e f = tt
dealt_some (Err x) part nulls parts keys hash build lists olds news k below e f = (k, below, e, f)
