-- First rows that row numbers enter, one by one and all.
use Rattle.std.proofs.Common.{◌≡◌, ℕ, ◌+◌, ◌<◌, ◌≤◌, min, List, [], ◌∷◌, map, fold, length, get_or, set, take, replicate, ◌-◌, refl, sym, ap, ◌∙◌, arith, bytes_eq}
use Rattle.std.specs.List.{range_with_len}
use Rattle.std.proofs.lemmas.List.{length-append, length-replicate, length-take, take_all}
use Rattle.list_laws.specs.Each.{Each}
use Rattle.list_laws.specs.Distinct.{NoRepeat}
use Rattle.reduce_states.specs.Moves.{entered, cut_or_filled}
use Rattle.reduce_states.proofs.Moved.{entered_more, length-entered}
use Rattle.join_laws.specs.Locals.{Entry, entries_from}
use Rattle.join_laws.specs.Steps.{TookKeys}
use Rattle.group_locals.specs.Rows.{KeyedRow, entry_key, entry_number, top, first_number}
use Rattle.group_locals.specs.Locals.{taken_values}
use Rattle.group_locals.proofs.Entered.{column_takes}

-- one more number has entered
pub noted_more : (xs gs ys old new : List ℕ) (i g row : ℕ) → old ≡ entered top min xs (take i gs) (take i ys) → i < length gs → i < length ys → g ≡ get_or gs i 0 → row ≡ get_or ys i 0 → new ≡ set old g (min (get_or old g top) row) → new ≡ entered top min xs (take (i + 1) gs) (take (i + 1) ys)
noted_more xs gs ys old new i g row so l m eg er e =
    let step : List ℕ → ℕ → ℕ → List ℕ = λ zs h r. set zs h (min (get_or zs h top) r) in
    e ∙ ap (λ (zs : List ℕ). step zs g row) so ∙ ap (λ (h : ℕ). step (entered top min xs (take i gs) (take i ys)) h row) eg ∙ ap (step (entered top min xs (take i gs) (take i ys)) (get_or gs i 0)) er ∙ sym (entered_more top min xs gs ys i 0 l m)

pub noted_all : (xs gs ys now : List ℕ) (i : ℕ) → now ≡ entered top min xs (take i gs) (take i ys) → length gs ≤ i → length ys ≤ i → now ≡ entered top min xs gs ys
noted_all xs gs ys now i e l m = e ∙ ap (λ (hs : List ℕ). entered top min xs hs (take i ys)) (take_all i gs l) ∙ ap (entered top min xs gs) (take_all i ys m)

-- the numbers of the rows of a morsel
pub numbers_are : (m n : ℕ) (rows : List KeyedRow) → map entry_number (entries_from m n rows) ≡ range_with_len n (length rows)
numbers_are m n [] = refl
numbers_are m n (row ∷ rows) = ap (λ (t : List ℕ). n ∷ t) (numbers_are m (n + 1) rows)

least_entered : (v : ℕ) (es : List (Entry KeyedRow)) → v ≤ top → fold min v (map entry_number es) ≡ min v (first_number es)
least_entered v [] h = omega arith
least_entered v (e ∷ es) h = least_entered (min v e.number) es (omega arith) ∙ (omega arith)

-- the first rows after the numbers of entries entered
pub firsts_take : (old new : List (List ℕ)) (es : List (Entry KeyedRow)) (idxs xs : List ℕ) → NoRepeat bytes_eq old → TookKeys bytes_eq (map entry_key es) old new idxs → length xs ≡ length old → Each (λ f. f ≤ top) xs → entered top min (cut_or_filled top xs (length new)) idxs (map entry_number es) ≡ taken_values first_number min old xs es new
firsts_take old new es idxs xs apart took long small = column_takes min first_number entry_number (λ f. f ≤ top) least_entered (omega arith) old new es idxs xs apart took long small

pub length-noted : (old gs ys now : List ℕ) (groups : ℕ) → now ≡ entered top min (cut_or_filled top old groups) gs ys → length now ≡ groups
length-noted old gs ys now groups e =
    let a = ap length e in
    let b = length-entered top min (cut_or_filled top old groups) gs ys in
    let c = length-append (take groups old) (replicate (groups - length old) top) in
    let d = length-take groups old in
    let f = length-replicate (groups - length old) top in
    omega arith
