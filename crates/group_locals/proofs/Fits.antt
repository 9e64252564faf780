-- Local states that fit still do after rows entered one of them, and there is room for their keys.
use Rattle.std.proofs.Common.{◌≡◌, ℕ, zero, suc, ◌+◌, ◌<◌, ◌≤◌, ◌^◌, true, List, [], ◌∷◌, ◌++◌, map, flat_map, length, get_or, zip, refl, sym, ap, ◌∙◌, subst, arith, bytes_eq}
use Rattle.std.specs.List.{list_any, All}
use Rattle.std.proofs.lemmas.List.{length-map}
use Rattle.std.proofs.lemmas.Slice.Eq.{bytes_eq-Decides}
use Rattle.key_groups.specs.Groups.{KeyGroups, with_keys}
use Rattle.key_groups.specs.Taken.{TookKeys as Came}
use Rattle.reduce_states.specs.States.{State}
use Rattle.reduce_states.specs.Reductions.{Shape}
use Rattle.list_laws.specs.Each.{Each}
use Rattle.list_laws.specs.Distinct.{NoRepeat}
use Rattle.list_laws.specs.Places.{IsIn, ChangedAt}
use Rattle.list_laws.proofs.Each.{All-from_Each}
use Rattle.list_laws.proofs.Keys.{no_repeat_from}
use Rattle.join_laws.specs.Locals.{Entry, entries_from}
use Rattle.group_locals.specs.declared.local.LocalState.{LocalState}
use Rattle.group_locals.specs.Rows.{KeyedRow, entry_key, top}
use Rattle.group_locals.specs.Locals.{Grouping, LocalFits, LocalsFit, LocalTakes, TakesColumn, AreFresh, kept, sized}
use Rattle.group_locals.proofs.Counts.{count_keys}
use Rattle.group_locals.proofs.Entered.{length-took, took_inside, took_more}
use Rattle.group_locals.proofs.Members.{Within, within_left, within_right, within_both, within_ends, within_rest}
use Rattle.group_locals.proofs.Pairs.{pairs_alike, alike_pairs, pairs_via, each_at_place}
use Rattle.group_locals.proofs.Sources.{Noted, noted, new_first, new_source, new_sources, new_first_below, news_below, numbers_below, apart_at, apart_within, sources_apart}

pub keys_entries : (m n : ℕ) (rows : List KeyedRow) → map entry_key (entries_from m n rows) ≡ map (λ row. row.key) rows
keys_entries m n [] = refl
keys_entries m n (row ∷ rows) = ap (λ (t : List (List ℕ)). row.key ∷ t) (keys_entries m (n + 1) rows)

module _ {R : Type 0} (shape : R → Shape) (holds : R → List State → Type 0) (of : Grouping) (mo n : ℕ) (rows : List KeyedRow) (room : n + length rows < 2 ^ 32) where
  es : List (Entry KeyedRow)
  es = entries_from mo n rows

  module _ (l m : LocalState R) (fits : LocalFits shape of l) (takes : LocalTakes shape holds (entries_from mo n rows) l m) where
    new_keys : m.grouper.keys ≡ with_keys l.grouper.keys (map entry_key (entries_from mo n rows))
    new_keys = ap (λ (g : KeyGroups). g.keys) takes.grouper_is

    there : (k : List ℕ) → list_any (λ s. bytes_eq s k) m.grouper.keys ≡ true → list_any (λ s. bytes_eq s k) (with_keys l.grouper.keys (map entry_key (entries_from mo n rows))) ≡ true
    there k h = subst (λ (ks : List (List ℕ)). list_any (λ s. bytes_eq s k) ks ≡ true) new_keys h

    shapes_are : map shape m.reductions ≡ map (sized (length m.grouper.keys)) of.shapes
    shapes_are = alike_pairs (sized (length m.grouper.keys)) shape 0 of.shapes m.reductions (pairs_via (λ i s a. shape a ≡ sized (length l.grouper.keys) s) (TakesColumn shape holds l.grouper.keys m.grouper.keys (entries_from mo n rows)) (λ i s b. shape b ≡ sized (length m.grouper.keys) s) (λ i s a b p q. q.shape_is ∙ ap (sized (length m.grouper.keys)) p) 0 of.shapes l.reductions m.reductions (pairs_alike (sized (length l.grouper.keys)) shape 0 of.shapes l.reductions fits.is_of.shapes_are) takes.columns)

    -- a local state that fitted still does
    pub takes_fits : LocalFits shape of m
    takes_fits = record {
      is_of = record { schema_is = ap (λ (g : KeyGroups). g.schema) takes.grouper_is ∙ fits.is_of.schema_is; state_is = ap (λ (g : KeyGroups). g.state) takes.grouper_is ∙ fits.is_of.state_is; shapes_are = shapes_are };
      distinct = subst (NoRepeat bytes_eq) (sym new_keys) (no_repeat_from bytes_eq bytes_eq-Decides l.grouper.keys (map entry_key (entries_from mo n rows)) fits.distinct);
      long = ap length takes.firsts_are ∙ length-map m.grouper.keys (new_first l.grouper.keys l.first_rows (entries_from mo n rows));
      below = subst (Each (λ f. f < top)) (sym takes.firsts_are) (news_below l.grouper.keys l.first_rows fits.long (entries_from mo n rows) fits.below (numbers_below mo n rows room) m.grouper.keys there);
    }

    -- what it keeps it kept before, or it is of the rows that came
    kept_from : Within (kept m) (kept l ++ map noted (entries_from mo n rows))
    kept_from = subst (λ (fs : List ℕ). Within (zip m.grouper.keys fs) (kept l ++ map noted (entries_from mo n rows))) (sym takes.firsts_are) (new_sources l.grouper.keys l.first_rows fits.long (entries_from mo n rows) fits.below (numbers_below mo n rows room) m.grouper.keys there)

  all_fit : (i : ℕ) (ls ms : List (LocalState R)) → Each (LocalFits shape of) ls → ChangedAt (LocalTakes shape holds (entries_from mo n rows)) i ls ms → Each (LocalFits shape of) ms
  all_fit i [] ms fits c = absurd c
  all_fit i (l ∷ ls) [] fits c = absurd c
  all_fit zero (l ∷ ls) (m ∷ ms) fits c = (takes_fits l m fits.0 c.0, subst (Each (LocalFits shape of)) (sym c.1) fits.1)
  all_fit (suc i) (l ∷ ls) (m ∷ ms) fits c = (subst (LocalFits shape of) (sym c.0) fits.0, all_fit i ls ms fits.1 c.1)

  all_kept : (i : ℕ) (ls ms : List (LocalState R)) → Each (LocalFits shape of) ls → ChangedAt (LocalTakes shape holds (entries_from mo n rows)) i ls ms → Within (flat_map kept ms) (flat_map kept ls ++ map noted (entries_from mo n rows))
  all_kept i [] ms fits c = absurd c
  all_kept i (l ∷ ls) [] fits c = absurd c
  all_kept zero (l ∷ ls) (m ∷ ms) fits c =
      let new = map noted (entries_from mo n rows) in
      let rest = flat_map kept ls in
      within_both (kept m) (flat_map kept ms) ((kept l ++ rest) ++ new)
      (λ p i. within_ends (kept l) rest new p (kept_from l m fits.0 c.0 p i))
      (λ p i. within_left (kept l ++ rest) new p (within_right (kept l) rest p (subst (λ (zs : List (LocalState R)). IsIn p (flat_map kept zs)) c.1 i)))
  all_kept (suc i) (l ∷ ls) (m ∷ ms) fits c =
      let new = map noted (entries_from mo n rows) in
      let rest = flat_map kept ls in
      within_both (kept m) (flat_map kept ms) ((kept l ++ rest) ++ new)
      (λ p j. within_left (kept l ++ rest) new p (within_left (kept l) rest p (subst (λ (z : LocalState R). IsIn p (kept z)) c.0 j)))
      (λ p j. within_rest (kept l) rest new p (all_kept i ls ms fits.1 c.1 p j))

  -- local states that fitted still do
  pub locals_fit : (i : ℕ) (ls ms : List (LocalState R)) → LocalsFit shape of ls → AreFresh n (length rows) (flat_map kept ls) → ChangedAt (LocalTakes shape holds (entries_from mo n rows)) i ls ms → LocalsFit shape of ms
  locals_fit i ls ms fits fresh c = record {
    each = all_fit i ls ms fits.each c;
    apart = apart_within (flat_map kept ms) (flat_map kept ls ++ map noted (entries_from mo n rows)) (all_kept i ls ms fits.each c) (sources_apart (flat_map kept ls) mo n rows fits.apart fresh);
  }

module _ {R : Type 0} (shape : R → Shape) (of : Grouping) where
  kept_at : (ls : List (LocalState R)) (i : ℕ) (d : LocalState R) → i < length ls → Within (kept (get_or ls i d)) (flat_map kept ls)
  kept_at [] i d l p h = absurd (omega arith)
  kept_at (x ∷ xs) zero d l p h = within_left (kept x) (flat_map kept xs) p h
  kept_at (x ∷ xs) (suc i) d l p h = within_right (kept x) (flat_map kept xs) p (kept_at xs i d (omega arith) p h)

  -- a local state has room for the keys of a morsel: first rows differ, and are below the top
  pub few_at : (ls : List (LocalState R)) (i : ℕ) (d : LocalState R) (n : ℕ) (rows : List KeyedRow) → i < length ls → LocalsFit shape of ls → n + length rows < 2 ^ 32 → AreFresh n (length rows) (flat_map kept ls) → length (with_keys (get_or ls i d).grouper.keys (map (λ row. row.key) rows)) < 2 ^ 32
  few_at ls i d n rows inside fits room fresh =
      let same = ap (λ (ks : List (List ℕ)). length (with_keys l.grouper.keys ks)) (keys_entries 0 n rows) in
      let few : length (with_keys l.grouper.keys (map entry_key (entries_from 0 n rows))) ≤ top = count_keys bytes_eq bytes_eq-Decides (new_first l.grouper.keys l.first_rows (entries_from 0 n rows)) top (with_keys l.grouper.keys (map entry_key (entries_from 0 n rows))) (no_repeat_from bytes_eq bytes_eq-Decides l.grouper.keys (map entry_key (entries_from 0 n rows)) mine.distinct) (λ a b ha hb e. apart_at sources (a, new_first l.grouper.keys l.first_rows (entries_from 0 n rows) a) (b, new_first l.grouper.keys l.first_rows (entries_from 0 n rows) b) (sources_apart (flat_map kept ls) 0 n rows fits.apart fresh) (source a ha) (source b hb) e) (new_first_below l.grouper.keys l.first_rows mine.long (entries_from 0 n rows) mine.below (numbers_below 0 n rows room)) in
      omega arith
    where
      l : LocalState R
      l = get_or ls i d

      mine : LocalFits shape of (get_or ls i d)
      mine = each_at_place (LocalFits shape of) ls i d inside fits.each

      sources : List Noted
      sources = flat_map kept ls ++ map noted (entries_from 0 n rows)

      source : (k : List ℕ) → list_any (λ s. bytes_eq s k) (with_keys (get_or ls i d).grouper.keys (map entry_key (entries_from 0 n rows))) ≡ true → IsIn (k, new_first (get_or ls i d).grouper.keys (get_or ls i d).first_rows (entries_from 0 n rows) k) (flat_map kept ls ++ map noted (entries_from 0 n rows))
      source k h = within_both (kept (get_or ls i d)) (map noted (entries_from 0 n rows)) (flat_map kept ls ++ map noted (entries_from 0 n rows)) (λ p j. within_left (flat_map kept ls) (map noted (entries_from 0 n rows)) p (kept_at ls i d inside p j)) (within_right (flat_map kept ls) (map noted (entries_from 0 n rows))) (k, new_first (get_or ls i d).grouper.keys (get_or ls i d).first_rows (entries_from 0 n rows) k) (new_source (get_or ls i d).grouper.keys (get_or ls i d).first_rows mine.long (entries_from 0 n rows) mine.below (numbers_below 0 n rows room) k h)

-- where each call has its own name for a list: the keys that came are at groups below their count
pub inside_of : (given old new : List (List ℕ)) (idxs is : List ℕ) (groups : ℕ) → Came bytes_eq given old new idxs → is ≡ idxs → groups ≡ length new → All (λ g. g < groups) is
inside_of given old new idxs is groups took ei eg = All-from_Each (λ g. g < groups) is (subst (Each (λ g. g < groups)) (sym ei) (subst (λ (n : ℕ). Each (λ g. g < n) idxs) (sym eg) (took_inside given old new idxs (record { keys_are = took.keys_are; idxs_are = took.idxs_are }))))

pub length-came : (given old new : List (List ℕ)) (idxs is : List ℕ) → Came bytes_eq given old new idxs → is ≡ idxs → length is ≡ length given
length-came given old new idxs is took e = ap length e ∙ length-took given old new idxs (record { keys_are = took.keys_are; idxs_are = took.idxs_are })

pub more_came : (given old new : List (List ℕ)) (idxs : List ℕ) (groups : ℕ) → Came bytes_eq given old new idxs → groups ≡ length new → length old ≤ groups
more_came given old new idxs groups took e = let m = took_more given old new idxs (record { keys_are = took.keys_are; idxs_are = took.idxs_are }) in omega arith
