-- Where the first rows of a local state come from: those that it had, and the numbers of the rows that came.
use Rattle.std.proofs.Common.{◌≡◌, ◌⊎◌, ℕ, suc, ◌+◌, ◌<◌, ◌≤◌, ◌^◌, min, true, false, List, [], ◌∷◌, ◌++◌, map, length, get_or, zip, refl, sym, ap, ap₂, ◌∙◌, subst, inl, inr, arith, bytes_eq}
use Rattle.std.specs.List.{list_any, position_or_len}
use Rattle.std.proofs.lemmas.Bool.{cases_Bool, cases_lt, false≢true}
use Rattle.std.proofs.lemmas.Slice.Eq.{bytes_eq-Decides}
use Rattle.key_groups.specs.Groups.{with_keys}
use Rattle.list_laws.specs.Each.{Each}
use Rattle.list_laws.specs.Places.{IsIn}
use Rattle.list_laws.proofs.Keys.{any_from}
use Rattle.join_laws.specs.Locals.{Entry, at_key, entries_from, of_key}
use Rattle.group_locals.specs.Rows.{KeyedRow, entry_key, top, first_number}
use Rattle.group_locals.specs.Locals.{FirstsDiffer, AreFresh}
use Rattle.group_locals.proofs.Counts.{any_head, any_tail}
use Rattle.group_locals.proofs.Members.{Within, each_in, in_each, within_left, within_right}

-- a key with a first row
abbrev pub Noted : Type 0
Noted = List ℕ × ℕ

-- the key of an entry with its number
abbrev pub noted : Entry KeyedRow → Noted
noted e = (entry_key e, e.number)

pub apart_at : (ps : List Noted) (p q : Noted) → FirstsDiffer ps → IsIn p ps → IsIn q ps → p.1 ≡ q.1 → p.0 ≡ q.0
apart_at ps p q h ip iq = each_in (λ (q : Noted). p.1 ≡ q.1 → p.0 ≡ q.0) ps q (each_in (λ (p : Noted). Each (λ q. p.1 ≡ q.1 → p.0 ≡ q.0) ps) ps p h ip) iq

pub apart_from : (ps : List Noted) → ((p q : Noted) → IsIn p ps → IsIn q ps → p.1 ≡ q.1 → p.0 ≡ q.0) → FirstsDiffer ps
apart_from ps f = in_each (λ (p : Noted). Each (λ q. p.1 ≡ q.1 → p.0 ≡ q.0) ps) ps (λ p ip. in_each (λ (q : Noted). p.1 ≡ q.1 → p.0 ≡ q.0) ps (λ q iq. f p q ip iq))

pub apart_within : (ps qs : List Noted) → Within ps qs → FirstsDiffer qs → FirstsDiffer ps
apart_within ps qs w h = apart_from ps (λ p q i j e. apart_at qs p q h (w p i) (w q j) e)

-- the numbers of a morsel's rows lie in its range, and differ
pub noted_range : (m n : ℕ) (rows : List KeyedRow) (p : Noted) → IsIn p (map noted (entries_from m n rows)) → (n ≤ p.1) × (p.1 < n + length rows)
noted_range m n [] p i = absurd i
noted_range m n (row ∷ rows) p i = elim i [
  | inl e ↦ let f : p.1 ≡ n = ap (λ (q : Noted). q.1) e in (omega arith, omega arith)
  | inr r ↦ let rest = noted_range m (n + 1) rows p r in (omega (arith, rest.0), omega (arith, rest.1))
]

noted_apart : (m n : ℕ) (rows : List KeyedRow) (p q : Noted) → IsIn p (map noted (entries_from m n rows)) → IsIn q (map noted (entries_from m n rows)) → p.1 ≡ q.1 → p.0 ≡ q.0
noted_apart m n [] p q i j e = absurd i
noted_apart m n (row ∷ rows) p q i j e = elim i [
  | inl a ↦ elim j [
    | inl b ↦ ap (λ (z : Noted). z.0) a ∙ sym (ap (λ (z : Noted). z.0) b)
    | inr s ↦ absurd (let f : p.1 ≡ n = ap (λ (z : Noted). z.1) a in let r = (noted_range m (n + 1) rows q s).0 in omega arith)
  ]
  | inr r ↦ elim j [
    | inl b ↦ absurd (let f : q.1 ≡ n = ap (λ (z : Noted). z.1) b in let s = (noted_range m (n + 1) rows p r).0 in omega arith)
    | inr s ↦ noted_apart m (n + 1) rows p q r s e
  ]
]

in_either : (xs ys : List Noted) (x : Noted) → IsIn x (xs ++ ys) → IsIn x xs ⊎ IsIn x ys
in_either [] ys x i = inr i
in_either (z ∷ zs) ys x i = elim i [
  | inl e ↦ inl (inl e)
  | inr r ↦ elim (in_either zs ys x r) [
    | inl a ↦ inl (inr a)
    | inr b ↦ inr b
  ]
]

-- first rows that differ still do beside fresh numbers
pub sources_apart : (ps : List Noted) (m n : ℕ) (rows : List KeyedRow) → FirstsDiffer ps → AreFresh n (length rows) ps → FirstsDiffer (ps ++ map noted (entries_from m n rows))
sources_apart ps m n rows h fresh = apart_from (ps ++ es) (λ p q i j e. elim (in_either ps es p i) [
  | inl a ↦ elim (in_either ps es q j) [
    | inl b ↦ apart_at ps p q h a b e
    | inr b ↦ absurd (clash p q a b e)
  ]
  | inr a ↦ elim (in_either ps es q j) [
    | inl b ↦ absurd (clash q p b a (sym e))
    | inr b ↦ noted_apart m n rows p q a b e
  ]
])
  where
    es : List Noted
    es = map noted (entries_from m n rows)

    clash : (p q : Noted) → IsIn p ps → IsIn q (map noted (entries_from m n rows)) → p.1 ≡ q.1 → ⊥
    clash p q i j e =
        let r = noted_range m n rows q j in
        elim (each_in (λ (p : Noted). (p.1 < n) ⊎ (n + length rows ≤ p.1)) ps p fresh i) [
          | inl low ↦ let lo = r.0 in omega arith
          | inr high ↦ let hi = r.1 in omega arith
        ]

index_cons : (x : List ℕ) (xs : List (List ℕ)) (k : List ℕ) → bytes_eq x k ≡ false → position_or_len (λ s. bytes_eq s k) (x ∷ xs) ≡ suc (position_or_len (λ s. bytes_eq s k) xs)
index_cons x xs k h = rw h (omega arith)

-- a first row below the top is that of a key that is there
pub at_key_in : (keys : List (List ℕ)) (firsts : List ℕ) (k : List ℕ) → length firsts ≡ length keys → at_key bytes_eq keys firsts k top < top → IsIn (k, at_key bytes_eq keys firsts k top) (zip keys firsts)
at_key_in [] [] k l h = absurd (omega arith)
at_key_in [] (f ∷ fs) k l h = absurd (omega arith)
at_key_in (x ∷ xs) [] k l h = absurd (omega arith)
at_key_in (x ∷ xs) (f ∷ fs) k l h = elim (cases_Bool (bytes_eq x k)) [
  | inl same ↦ inl (rw same (ap (λ (z : List ℕ). (z, f)) (sym ((bytes_eq-Decides x k).0 same))))
  | inr apart ↦
      let e : at_key bytes_eq (x ∷ xs) (f ∷ fs) k top ≡ at_key bytes_eq xs fs k top = ap (λ i. get_or (f ∷ fs) i top) (index_cons x xs k apart) in
      inr (subst (λ (v : ℕ). IsIn (k, v) (zip xs fs)) (sym e) (at_key_in xs fs k (omega arith) (omega arith)))
]

pub at_key_below : (keys : List (List ℕ)) (firsts : List ℕ) (k : List ℕ) → length firsts ≡ length keys → Each (λ f. f < top) firsts → list_any (λ s. bytes_eq s k) keys ≡ true → at_key bytes_eq keys firsts k top < top
at_key_below [] fs k l h i = absurd (false≢true i)
at_key_below (x ∷ xs) [] k l h i = absurd (omega arith)
at_key_below (x ∷ xs) (f ∷ fs) k l h i = elim (cases_Bool (bytes_eq x k)) [
  | inl same ↦ rw same h.0
  | inr apart ↦
      let e : at_key bytes_eq (x ∷ xs) (f ∷ fs) k top ≡ at_key bytes_eq xs fs k top = ap (λ i. get_or (f ∷ fs) i top) (index_cons x xs k apart) in
      let r = at_key_below xs fs k (omega arith) h.1 (rw apart at i) in
      omega arith
]

-- a least number below the top is that of an entry
pub first_in : (es : List (Entry KeyedRow)) (k : List ℕ) → first_number (of_key bytes_eq entry_key es k) < top → IsIn (k, first_number (of_key bytes_eq entry_key es k)) (map noted es)
first_in [] k h = absurd (omega arith)
first_in (e ∷ es) k h = elim (cases_Bool (bytes_eq e.row.key k)) [
  | inl same ↦
      let f : first_number (of_key bytes_eq entry_key (e ∷ es) k) ≡ min e.number (first_number (of_key bytes_eq entry_key es k)) = rw same refl in
      elim (cases_lt (first_number (of_key bytes_eq entry_key es k)) e.number) [
        | inl low ↦ inr (subst (λ (v : ℕ). IsIn (k, v) (map noted es)) (sym (f ∙ (omega arith))) (first_in es k (omega arith)))
        | inr high ↦ inl (ap₂ (λ (z : List ℕ) (v : ℕ). (z, v)) (sym ((bytes_eq-Decides e.row.key k).0 same)) (f ∙ (omega arith)))
      ]
  | inr apart ↦
      let f : first_number (of_key bytes_eq entry_key (e ∷ es) k) ≡ first_number (of_key bytes_eq entry_key es k) = rw apart refl in
      inr (subst (λ (v : ℕ). IsIn (k, v) (map noted es)) (sym f) (first_in es k (omega arith)))
]

first_below : (es : List (Entry KeyedRow)) (k : List ℕ) → Each (λ e. e.number < top) es → list_any (λ s. bytes_eq s k) (map entry_key es) ≡ true → first_number (of_key bytes_eq entry_key es k) < top
first_below [] k h i = absurd (false≢true i)
first_below (e ∷ es) k h i = elim (cases_Bool (bytes_eq e.row.key k)) [
  | inl same ↦ rw same (let a = h.0 in omega arith)
  | inr apart ↦ rw apart (first_below es k h.1 (rw apart at i))
]

-- the first row of a key after entries came
abbrev pub new_first : List (List ℕ) → List ℕ → List (Entry KeyedRow) → List ℕ → ℕ
new_first keys firsts es k = min (at_key bytes_eq keys firsts k top) (first_number (of_key bytes_eq entry_key es k))

module _ (keys : List (List ℕ)) (firsts : List ℕ) (long : length firsts ≡ length keys) (es : List (Entry KeyedRow)) where
  new_first_in : (k : List ℕ) → new_first keys firsts es k < top → IsIn (k, new_first keys firsts es k) (zip keys firsts ++ map noted es)
  new_first_in k h = elim (cases_lt (first_number (of_key bytes_eq entry_key es k)) (at_key bytes_eq keys firsts k top)) [
    | inl low ↦
        let e : new_first keys firsts es k ≡ first_number (of_key bytes_eq entry_key es k) = omega arith in
        subst (λ (v : ℕ). IsIn (k, v) (zip keys firsts ++ map noted es)) (sym e) (within_right (zip keys firsts) (map noted es) (k, first_number (of_key bytes_eq entry_key es k)) (first_in es k (omega arith)))
    | inr high ↦
        let e : new_first keys firsts es k ≡ at_key bytes_eq keys firsts k top = omega arith in
        subst (λ (v : ℕ). IsIn (k, v) (zip keys firsts ++ map noted es)) (sym e) (within_left (zip keys firsts) (map noted es) (k, at_key bytes_eq keys firsts k top) (at_key_in keys firsts k long (omega arith)))
  ]

  module _ (below : Each (λ f. f < top) firsts) (small : Each (λ e. e.number < top) es) where
    -- each key has a first row
    pub new_first_below : (k : List ℕ) → list_any (λ s. bytes_eq s k) (with_keys keys (map entry_key es)) ≡ true → new_first keys firsts es k < top
    new_first_below k i = elim (cases_Bool (list_any (λ s. bytes_eq s k) keys)) [
      | inl there ↦ let a = at_key_below keys firsts k long below there in omega arith
      | inr fresh ↦
          let both = sym (any_from bytes_eq bytes_eq-Decides keys (map entry_key es) k) ∙ i in
          let b = first_below es k small (rw fresh at both) in omega arith
    ]

    pub new_source : (k : List ℕ) → list_any (λ s. bytes_eq s k) (with_keys keys (map entry_key es)) ≡ true → IsIn (k, new_first keys firsts es k) (zip keys firsts ++ map noted es)
    new_source k i = new_first_in k (new_first_below k i)

    -- keys with their new first rows come from those that had one, and from the entries
    pub new_sources : (ks : List (List ℕ)) → ((k : List ℕ) → list_any (λ s. bytes_eq s k) ks ≡ true → list_any (λ s. bytes_eq s k) (with_keys keys (map entry_key es)) ≡ true) → Within (zip ks (map (new_first keys firsts es) ks)) (zip keys firsts ++ map noted es)
    new_sources [] f p i = absurd i
    new_sources (k ∷ ks) f p i = elim i [
      | inl e ↦ subst (λ (q : Noted). IsIn q (zip keys firsts ++ map noted es)) (sym e) (new_source k (f k (any_head bytes_eq bytes_eq-Decides k ks)))
      | inr r ↦ new_sources ks (λ j h. f j (any_tail bytes_eq bytes_eq-Decides k j ks h)) p r
    ]

    pub news_below : (ks : List (List ℕ)) → ((k : List ℕ) → list_any (λ s. bytes_eq s k) ks ≡ true → list_any (λ s. bytes_eq s k) (with_keys keys (map entry_key es)) ≡ true) → Each (λ f. f < top) (map (new_first keys firsts es) ks)
    news_below [] f = tt
    news_below (k ∷ ks) f = (new_first_below k (f k (any_head bytes_eq bytes_eq-Decides k ks)), news_below ks (λ j h. f j (any_tail bytes_eq bytes_eq-Decides k j ks h)))

pub numbers_below : (m n : ℕ) (rows : List KeyedRow) → n + length rows < 2 ^ 32 → Each (λ e. e.number < top) (entries_from m n rows)
numbers_below m n [] h = tt
numbers_below m n (row ∷ rows) h = (omega arith, numbers_below m (n + 1) rows (omega arith))
