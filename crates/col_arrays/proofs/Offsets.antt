-- Bytes that are cut at offsets.
use Rattle.std.proofs.Common.{◌≡◌, ℕ, ◌+◌, ◌-◌, ◌^◌, ◌<◌, ◌≤◌, List, [], ◌∷◌, ◌++◌, length, drop, get_or, slice_get, Some, refl, sym, ap, ◌∙◌, subst, arith, zero-add, ◌⊎◌, inl, inr}
use Rattle.std.proofs.lemmas.List.{length-append, length-drop, take_all, drop-append-le, take-append-le, get_or_append_left}
use Rattle.std.proofs.lemmas.List.FromFn.{length-map-range_with_len, get_or-map-range_with_len, fill_by_all}
use Rattle.std.proofs.Math.ListN.{drop_of_length-le}
use Rattle.std.proofs.lemmas.Bool.{cases_lt}
use Rattle.std.proofs.Math.Seq.{get_or-append_seam}
use Rattle.std.proofs.lemmas.Option.{slice_get-get_or}
use Rattle.std.proofs.lemmas.List.Sorted.{IsNonDecreasingBy-from_default}
use Rattle.std.specs.List.{All, range_with_len}
use Rattle.std.proofs.lemmas.List.Elements.{All-map, All-take, All-drop}
use Rattle.col_arrays.specs.Buffer.{bytes_at, byte_items, opened, AreOffsets, AreBytes}

pub length-byte_items : (bytes offsets : List ℕ) → length (byte_items bytes offsets) ≡ length offsets - 1
length-byte_items bytes offsets = length-map-range_with_len (bytes_at bytes offsets) 0 (length offsets - 1)

pub item_at : (bytes offsets : List ℕ) (i : ℕ) (d : List ℕ) → i < length offsets - 1 → get_or (byte_items bytes offsets) i d ≡ bytes_at bytes offsets i
item_at bytes offsets i d h = get_or-map-range_with_len (bytes_at bytes offsets) 0 (length offsets - 1) i i d h (zero-add i)

pub slice_get-byte_items : (bytes offsets : List ℕ) (i : ℕ) → i < length offsets - 1 → slice_get (byte_items bytes offsets) i ≡ Some (bytes_at bytes offsets i)
slice_get-byte_items bytes offsets i h = slice_get-get_or (byte_items bytes offsets) i [] (rw (length-byte_items bytes offsets) h) ∙ ap Some (item_at bytes offsets i [] h)

pub step_up : (bytes offsets : List ℕ) (i : ℕ) → AreOffsets bytes offsets → i + 1 < length offsets → get_or offsets i 0 ≤ get_or offsets (i + 1) 0
step_up bytes offsets i h l = h.ascend i (i + 1) 0 (omega arith) l

pub within_bytes : (bytes offsets : List ℕ) (i : ℕ) → AreOffsets bytes offsets → i < length offsets → get_or offsets i 0 ≤ length bytes
within_bytes bytes offsets i h l = subst (λ e. get_or offsets i 0 ≤ e) h.end (h.ascend i (length offsets - 1) 0 (omega arith) (omega arith))

-- ---- offsets as they are kept

pub length-opened : (offsets : List ℕ) → length (opened offsets) - 1 ≡ length offsets - 1
length-opened [] = refl
length-opened (o ∷ offsets) = refl

-- where there is a bytes_at, all offsets are kept
pub opened_all : (offsets : List ℕ) → 0 < length offsets → opened offsets ≡ offsets
opened_all [] h = absurd (omega arith)
opened_all (o ∷ offsets) h = refl

pub no_offsets : AreOffsets [] (0 ∷ [])
no_offsets = record { some = omega arith; start = refl; ascend = λ i j d le l. let same : i ≡ j = omega arith in rw same (omega arith); end = refl }

-- ---- one more bytes_at

-- a bytes_at lies before what is appended
item_before : (bytes more offsets : List ℕ) (e i : ℕ) → AreOffsets bytes offsets → i + 1 < length offsets → bytes_at (bytes ++ more) (offsets ++ e ∷ []) i ≡ bytes_at bytes offsets i
item_before bytes more offsets e i h l =
    let a = get_or offsets i 0 in
    let b = get_or offsets (i + 1) 0 in
    let up : a ≤ b = step_up bytes offsets i h l in
    let within : b ≤ length bytes = within_bytes bytes offsets (i + 1) h l in
    let low : a ≤ length bytes = omega arith in
    let short : b - a ≤ length (drop a bytes) = rw length-drop (omega arith) in
    rw (get_or_append_left offsets (e ∷ []) 0 i (omega arith), get_or_append_left offsets (e ∷ []) 0 (i + 1) l, drop-append-le a bytes more low)
    (take-append-le (b - a) (drop a bytes) more short)

-- what is appended is the last bytes_at
item_after : (bytes more offsets : List ℕ) (n : ℕ) → AreOffsets bytes offsets → n + 1 ≡ length offsets → bytes_at (bytes ++ more) (offsets ++ length (bytes ++ more) ∷ []) n ≡ more
item_after bytes more offsets n h l =
    let e = length (bytes ++ more) in
    let last : n ≡ length offsets - 1 = omega arith in
    let from : get_or (offsets ++ e ∷ []) n 0 ≡ length bytes = get_or_append_left offsets (e ∷ []) 0 n (omega arith) ∙ ap (λ k. get_or offsets k 0) last ∙ h.end in
    let upto : get_or (offsets ++ e ∷ []) (n + 1) 0 ≡ e = ap (λ k. get_or (offsets ++ e ∷ []) k 0) l ∙ get_or-append_seam offsets e [] 0 in
    let rest : drop (length bytes) (bytes ++ more) ≡ more = drop-append-le (length bytes) bytes more (omega arith) ∙ ap (λ front. front ++ more) (drop_of_length-le bytes (omega arith)) in
    rw (from, upto, rest) (take_all (e - length bytes) more (omega (arith, length-append bytes more)))

-- each bytes_at, with one more
item_in : (bytes more offsets : List ℕ) (k : ℕ) → AreOffsets bytes offsets → k < length offsets → (k < length offsets - 1) ⊎ (length offsets - 1 ≤ k)
    → get_or (byte_items bytes offsets ++ more ∷ []) k [] ≡ bytes_at (bytes ++ more) (offsets ++ length (bytes ++ more) ∷ []) k
item_in bytes more offsets k h l (inl before) =
    get_or_append_left (byte_items bytes offsets) (more ∷ []) [] k (rw (length-byte_items bytes offsets) before)
    ∙ item_at bytes offsets k [] before ∙ sym (item_before bytes more offsets (length (bytes ++ more)) k h (omega arith))
item_in bytes more offsets k h l (inr after) =
    let at_end : k ≡ length (byte_items bytes offsets) = omega (arith, length-byte_items bytes offsets) in
    ap (λ i. get_or (byte_items bytes offsets ++ more ∷ []) i []) at_end ∙ get_or-append_seam (byte_items bytes offsets) more [] []
    ∙ sym (item_after bytes more offsets k h (omega arith))

pub byte_items_more : (bytes more offsets : List ℕ) → AreOffsets bytes offsets → byte_items (bytes ++ more) (offsets ++ length (bytes ++ more) ∷ []) ≡ byte_items bytes offsets ++ more ∷ []
byte_items_more bytes more offsets h =
    let e = length (bytes ++ more) in
    let some = h.some in
    let long : length (offsets ++ e ∷ []) ≡ length offsets + 1 = length-append offsets (e ∷ []) in
    let count : length (byte_items bytes offsets ++ more ∷ []) ≡ length (offsets ++ e ∷ []) - 1 = omega (arith, length-append (byte_items bytes offsets) (more ∷ []), length-byte_items bytes offsets) in
    sym (fill_by_all (bytes_at (bytes ++ more) (offsets ++ e ∷ [])) (byte_items bytes offsets ++ more ∷ []) (length (offsets ++ e ∷ []) - 1) [] count
    (λ k l. item_in bytes more offsets k h (omega arith) (cases_lt k (length offsets - 1))))

opened_push : (offsets : List ℕ) (e : ℕ) → opened (opened offsets ++ e ∷ []) ≡ opened offsets ++ e ∷ []
opened_push [] e = refl
opened_push (o ∷ offsets) e = refl

pub byte_items-push : (bytes more offsets : List ℕ) → AreOffsets bytes (opened offsets) → byte_items (bytes ++ more) (opened (opened offsets ++ length (bytes ++ more) ∷ [])) ≡ byte_items bytes (opened offsets) ++ more ∷ []
byte_items-push bytes more offsets h = rw (opened_push offsets (length (bytes ++ more))) (byte_items_more bytes more (opened offsets) h)

offset_within : (bytes more offsets : List ℕ) (i j : ℕ) → AreOffsets bytes offsets → i ≤ j → j < length offsets + 1 → get_or (offsets ++ length (bytes ++ more) ∷ []) i 0 ≤ get_or (offsets ++ length (bytes ++ more) ∷ []) j 0
offset_within bytes more offsets i j h le l =
    let e = length (bytes ++ more) in
    elim (cases_lt j (length offsets)) [
      | inl before ↦ rw (get_or_append_left offsets (e ∷ []) 0 i (omega arith), get_or_append_left offsets (e ∷ []) 0 j before) (h.ascend i j 0 le before)
      | inr after ↦
          let last : get_or (offsets ++ e ∷ []) j 0 ≡ e = ap (λ k. get_or (offsets ++ e ∷ []) k 0) (omega arith) ∙ get_or-append_seam offsets e [] 0 in
          elim (cases_lt i (length offsets)) [
            | inl low ↦ rw (last, get_or_append_left offsets (e ∷ []) 0 i low) (omega (arith, within_bytes bytes offsets i h low, length-append bytes more))
            | inr high ↦ let same : i ≡ j = omega arith in rw same (omega arith)
          ]
    ]

pub offsets_more : (bytes more offsets : List ℕ) → AreOffsets bytes offsets → AreOffsets (bytes ++ more) (offsets ++ length (bytes ++ more) ∷ [])
offsets_more bytes more offsets h =
    let e = length (bytes ++ more) in
    let some = h.some in
    let long : length (offsets ++ e ∷ []) ≡ length offsets + 1 = length-append offsets (e ∷ []) in
    record {
      some = omega arith;
      start = get_or_append_left offsets (e ∷ []) 0 0 some ∙ h.start;
      ascend = IsNonDecreasingBy-from_default (λ o. o) (offsets ++ e ∷ []) 0 (λ i j le l. offset_within bytes more offsets i j h le (omega arith));
      end = ap (λ k. get_or (offsets ++ e ∷ []) k 0) (omega arith) ∙ get_or-append_seam offsets e [] 0;
    }

pub offsets-push : (bytes more offsets : List ℕ) → AreOffsets bytes (opened offsets) → AreOffsets (bytes ++ more) (opened (opened offsets ++ length (bytes ++ more) ∷ []))
offsets-push bytes more offsets h = subst (AreOffsets (bytes ++ more)) (sym (opened_push offsets (length (bytes ++ more)))) (offsets_more bytes more (opened offsets) h)

pub ruleset sizes = (length-byte_items, length-opened, no_offsets)

pub ruleset pushes = (byte_items-push, offsets-push)

-- ---- the offsets of a bytes_at, among those that are kept

pub record IsCutAt (bytes offsets : List ℕ) (now : List (List ℕ)) (i : ℕ) : Type 0 where
  pub kept : i + 1 < length offsets
  pub up : get_or offsets i 0 ≤ get_or offsets (i + 1) 0
  pub within : get_or offsets (i + 1) 0 ≤ length bytes
  pub cut : slice_get now i ≡ Some (bytes_at bytes offsets i)

pub cut_at : (bytes offsets : List ℕ) (now : List (List ℕ)) (i : ℕ) → AreOffsets bytes (opened offsets) → byte_items bytes (opened offsets) ≡ now → i < length now → IsCutAt bytes offsets now i
cut_at bytes offsets now i h e l =
    let size : length now ≡ length (opened offsets) - 1 = ap length (sym e) ∙ length-byte_items bytes (opened offsets) in
    let inside : i + 1 < length offsets = omega (arith, length-opened offsets) in
    let all : opened offsets ≡ offsets = opened_all offsets (omega arith) in
    let kept : AreOffsets bytes offsets = subst (AreOffsets bytes) all h in
    record {
      kept = inside;
      up = step_up bytes offsets i kept inside;
      within = within_bytes bytes offsets (i + 1) kept inside;
      cut = ap (λ items. slice_get items i) (sym e ∙ ap (byte_items bytes) all) ∙ slice_get-byte_items bytes offsets i (omega arith);
    }

-- ---- what a byte holds

pub bytes-items : (bytes offsets : List ℕ) → AreBytes bytes → All AreBytes (byte_items bytes offsets)
bytes-items bytes offsets small =
    let Byte : ℕ → Type 0 = λ b. b < 2 ^ 8 in
    let places : List ℕ = range_with_len 0 (length offsets - 1) in
    All-map AreBytes (bytes_at bytes offsets) places
    (λ k d l. let i = get_or places k d in
    All-take Byte (get_or offsets (i + 1) 0 - get_or offsets i 0) (drop (get_or offsets i 0) bytes) (All-drop Byte (get_or offsets i 0) bytes small))
