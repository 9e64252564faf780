-- A local state after its calls took the rows of a morsel.
use Rattle.std.proofs.Common.{◌≡◌, ℕ, ◌<◌, ◌≤◌, min, List, [], ◌∷◌, map, length, get_or, unwrap_or, Bor, sym, ap, ap₂, ◌∙◌, subst, arith, bytes_eq}
use Rattle.std.specs.List.{range_with_len}
use Rattle.std.proofs.lemmas.List.{length-map, get_or-map}
use Rattle.std.proofs.lemmas.List.FromFn.{length-map-range_with_len}
use mathlib.Core.List.{map-map}
use Rattle.col_core.specs.declared.leaf.Leaf.{Leaf}
use Rattle.col_core.specs.declared.leaf.Leaf.TheVariants as leaves
use Rattle.col_core.specs.Tables.{row_at}
use Rattle.col_core.specs.Values.{value_at}
use Rattle.col_core.specs.declared.schema.Field.{Field}
use Rattle.col_core.specs.declared.series.Series.{Series}
use Rattle.hash_keys.specs.declared.keys.HashKeys.{HashKeys}
use Rattle.hash_keys.specs.Views.{keys_of}
use Rattle.key_groups.specs.Taken.{TookKeys as Came}
use Rattle.key_parts.specs.declared.hash.PlRandomState.{PlRandomState}
use Rattle.key_groups.specs.Groups.{KeyGroups, bytes_of, with_keys}
use Rattle.reduce_states.specs.States.{State, IsState}
use Rattle.reduce_states.specs.Moves.{entered, cut_or_filled, ones}
use Rattle.reduce_states.specs.Reductions.{Shape}
use Rattle.list_laws.specs.Each.{Each}
use Rattle.list_laws.specs.Distinct.{NoRepeat}
use Rattle.list_laws.specs.Places.{PairsFrom}
use Rattle.list_laws.proofs.Each.{Each-map, Each-weaker}
use Rattle.list_laws.proofs.Maps.{map_agree, read_all}
use Rattle.join_laws.specs.Locals.{entries_from}
use Rattle.join_laws.specs.Steps.{TookKeys}
use Rattle.group_locals.specs.declared.local.LocalState.{LocalState}
use Rattle.group_locals.specs.Rows.{KeyedRow, keyed_rows, values_for, entry_key, top}
use Rattle.group_locals.specs.Locals.{Grouping, LocalFits, LocalTakes, RowsFit, TakesColumn, sized}
use Rattle.group_locals.specs.Columns.{EntersColumn, entered_states}
use Rattle.group_locals.proofs.Entered.{length-took}
use Rattle.group_locals.proofs.FirstRows.{firsts_take, numbers_are}
use Rattle.group_locals.proofs.Fits.{keys_entries}
use Rattle.group_locals.proofs.Pairs.{each_at_place, pairs_alike, pairs_within, pairs_right, same_long}
use Rattle.group_locals.proofs.States.{states_take}

-- the keys of rows, and their values in a column
pub rows_keys : (keys : List (List ℕ)) (columns : List (List Leaf)) → map (λ row. row.key) (keyed_rows keys columns) ≡ keys
rows_keys keys columns = map-map (λ (row : KeyedRow). row.key) (λ i. record { key = get_or keys i []; values = row_at columns i }) (range_with_len 0 (length keys)) ∙ read_all keys []

pub rows_values : (keys : List (List ℕ)) (columns : List (List Leaf)) (r : ℕ) → r < length columns → length (get_or columns r []) ≡ length keys → values_for r (keyed_rows keys columns) ≡ get_or columns r []
rows_values keys columns r inside height =
    map-map (λ (row : KeyedRow). value_at row.values r) (λ i. record { key = get_or keys i []; values = row_at columns i }) (range_with_len 0 (length keys))
    ∙ map_agree (λ i. value_at (row_at columns i) r) (value_at (get_or columns r [])) (λ i. get_or-map (λ (vs : List Leaf). value_at vs i) columns r [] leaves.Null inside) (range_with_len 0 (length keys))
    ∙ ap (λ (n : ℕ). map (value_at (get_or columns r [])) (range_with_len 0 n)) (sym height)
    ∙ read_all (get_or columns r []) leaves.Null

pub rows_long : (keys : List (List ℕ)) (columns : List (List Leaf)) → length (keyed_rows keys columns) ≡ length keys
rows_long keys columns = length-map-range_with_len {X = KeyedRow} (λ i. record { key = get_or keys i []; values = row_at columns i }) 0 (length keys)

-- lent columns that can enter
pub lent_types : {R : Type 0} (shape : R → Shape) (of : Grouping) (keys : HashKeys) (values : List (Bor Series)) (n : ℕ) (rs : List R) → RowsFit of keys (map (λ v. v.now) values) → map shape rs ≡ map (sized n) of.shapes → map (λ v. v.now.dtype) values ≡ map (λ a. (shape a).dtype) rs
lent_types {R} shape of keys values n rs fits e =
    sym (map-map (λ (c : Series). c.dtype) (λ (v : Bor Series). v.now) values)
    ∙ fits.types_are
    ∙ sym (map-map (λ (s : Shape). s.dtype) (sized n) of.shapes)
    ∙ ap (map (λ (s : Shape). s.dtype)) (sym e)
    ∙ map-map (λ (s : Shape). s.dtype) shape rs

each_unmap : {X Y : Type 0} (P : Y → Type 0) (f : X → Y) (xs : List X) → Each P (map f xs) → Each (λ x. P (f x)) xs
each_unmap P f [] h = tt
each_unmap P f (x ∷ xs) h = (h.0, each_unmap P f xs h.1)

pub lent_heights : (of : Grouping) (keys : HashKeys) (values : List (Bor Series)) (n : ℕ) → RowsFit of keys (map (λ v. v.now) values) → n ≡ length (keys_of keys) → Each (λ v. length v.now.values ≡ n) values
lent_heights of keys values n fits e = each_unmap (λ (c : Series). length c.values ≡ n) (λ (v : Bor Series). v.now) values (subst (λ (m : ℕ). Each (λ (c : Series). length c.values ≡ m) (map (λ v. v.now) values)) (sym e) fits.heights)

-- each reduction of a local state has a group for each of its keys
pub groups_are : {R : Type 0} (shape : R → Shape) (n : ℕ) (shapes : List Shape) (rs : List R) → map shape rs ≡ map (sized n) shapes → Each (λ a. (shape a).groups ≡ n) rs
groups_are {R} shape n shapes rs e =
    let P : ℕ → Shape → R → Type 0 = λ i s a. shape a ≡ sized n s in
    let h = pairs_alike (sized n) shape 0 shapes rs e in
    pairs_right P P (λ a. (shape a).groups ≡ n) (λ i s a p q. ap (λ (t : Shape). t.groups) p) 0 shapes rs h h

module _ {R : Type 0} (shape : R → Shape) (holds : R → List State → Type 0) (long : (a : R) (xs : List State) → holds a xs → length xs ≡ (shape a).groups) (states : (a : R) (xs : List State) → holds a xs → Each (IsState (shape a).kind (shape a).dtype) xs) (keys : List (List ℕ)) (columns : List (List Leaf)) (mo first : ℕ) where
  module _ (old new : List (List ℕ)) (idxs : List ℕ) (apart : NoRepeat bytes_eq old) (took : TookKeys bytes_eq (map entry_key (entries_from mo first (keyed_rows keys columns))) old new idxs) where
    column_takes : (r : ℕ) (a b : R) → (shape a).groups ≡ length old → values_for r (keyed_rows keys columns) ≡ get_or columns r [] → EntersColumn shape holds (length new) idxs mo (get_or columns r []) a b → TakesColumn shape holds old new (entries_from mo first (keyed_rows keys columns)) r a b
    column_takes r a b groups values enters = record {
      shape_is = enters.shape_is;
      states = λ xs h. subst (holds b) (ap (λ (vs : List Leaf). entered_states (shape a) (length new) idxs xs (ones (shape a).kind (shape a).dtype mo vs)) (sym values) ∙ states_take (shape a) r old new mo first (keyed_rows keys columns) idxs xs apart took (long a xs h ∙ groups) (states a xs h)) (enters.states xs h);
    }

    columns_take : (rs ss : List R) → length columns ≡ length rs → Each (λ (vs : List Leaf). length vs ≡ length keys) columns → Each (λ a. (shape a).groups ≡ length old) rs → PairsFrom (λ r a b. EntersColumn shape holds (length new) idxs mo (get_or columns r []) a b) 0 rs ss → PairsFrom (TakesColumn shape holds old new (entries_from mo first (keyed_rows keys columns))) 0 rs ss
    columns_take rs ss wide heights groups enters = pairs_within (λ r a b. EntersColumn shape holds (length new) idxs mo (get_or columns r []) a b) (TakesColumn shape holds old new (entries_from mo first (keyed_rows keys columns))) (λ a. (shape a).groups ≡ length old) rs ss (λ r a b l g e. column_takes r a b g (rows_values keys columns r (omega arith) (each_at_place (λ (vs : List Leaf). length vs ≡ length keys) columns r [] (omega arith) heights)) e) groups enters

  -- the local state l became m: the grouper took the keys, then the numbers of the rows entered the first rows, and the columns the reductions
  pub local_takes : (of : Grouping) (l m : LocalState R) (idxs : List ℕ) → LocalFits shape of l → length columns ≡ length l.reductions → Each (λ (vs : List Leaf). length vs ≡ length keys) columns → m.grouper.schema ≡ l.grouper.schema → m.grouper.state ≡ l.grouper.state → TookKeys bytes_eq keys l.grouper.keys m.grouper.keys idxs → m.first_rows ≡ entered top min (cut_or_filled top l.first_rows (length m.grouper.keys)) idxs (range_with_len first (length idxs)) → PairsFrom (λ r a b. EntersColumn shape holds (length m.grouper.keys) idxs mo (get_or columns r []) a b) 0 l.reductions m.reductions → LocalTakes shape holds (entries_from mo first (keyed_rows keys columns)) l m
  local_takes of l m idxs fits wide heights same_schema same_state took firsts enters = record {
    grouper_is = ap₂ (λ (ks : List (List ℕ)) (s : List Field). grouped ks s m.grouper.state) took'.keys_are same_schema ∙ ap (grouped (with_keys l.grouper.keys (map entry_key (entries_from mo first (keyed_rows keys columns)))) l.grouper.schema) same_state;
    firsts_are = firsts ∙ ap (entered top min (cut_or_filled top l.first_rows (length m.grouper.keys)) idxs) (ap (range_with_len first) n ∙ sym (numbers_are mo first (keyed_rows keys columns))) ∙ firsts_take l.grouper.keys m.grouper.keys (entries_from mo first (keyed_rows keys columns)) idxs l.first_rows fits.distinct took' fits.long (Each-weaker (λ (f : ℕ). f < top) (λ (f : ℕ). f ≤ top) l.first_rows (λ f h. omega arith) fits.below);
    columns = columns_take l.grouper.keys m.grouper.keys idxs fits.distinct took' l.reductions m.reductions wide heights (groups_are shape (length l.grouper.keys) of.shapes l.reductions fits.is_of.shapes_are) enters;
  }
    where
      entries_keys : map entry_key (entries_from mo first (keyed_rows keys columns)) ≡ keys
      entries_keys = keys_entries mo first (keyed_rows keys columns) ∙ rows_keys keys columns

      took' : TookKeys bytes_eq (map entry_key (entries_from mo first (keyed_rows keys columns))) l.grouper.keys m.grouper.keys idxs
      took' = subst (λ (ks : List (List ℕ)). TookKeys bytes_eq ks l.grouper.keys m.grouper.keys idxs) (sym entries_keys) took

      grouped : List (List ℕ) → List Field → PlRandomState → KeyGroups
      grouped ks s t = record { keys = ks; schema = s; state = t }

      n : length idxs ≡ length (keyed_rows keys columns)
      n = length-took keys l.grouper.keys m.grouper.keys idxs took ∙ sym (rows_long keys columns)

-- the same, where each call has its own name for a list
module _ {R : Type 0} (shape : R → Shape) (holds : R → List State → Type 0) (long : (a : R) (xs : List State) → holds a xs → length xs ≡ (shape a).groups) (states : (a : R) (xs : List State) → holds a xs → Each (IsState (shape a).kind (shape a).dtype) xs) where
  pub local_takes_from : (of : Grouping) (keys : HashKeys) (values : List (Bor Series)) (mo first : ℕ) (l m : LocalState R) (idxs is js : List ℕ) (groups : ℕ) → LocalFits shape of l → RowsFit of keys (map (λ v. v.now) values) → is ≡ idxs → js ≡ idxs → groups ≡ length m.grouper.keys → m.grouper.schema ≡ l.grouper.schema → m.grouper.state ≡ l.grouper.state → Came bytes_eq (bytes_of (keys_of keys)) l.grouper.keys m.grouper.keys idxs → m.first_rows ≡ entered top min (cut_or_filled top l.first_rows groups) is (range_with_len first (length is)) → PairsFrom (λ r a b. EntersColumn shape holds groups js mo (get_or (map (λ v. v.now.values) values) r []) a b) 0 l.reductions m.reductions → LocalTakes shape holds (entries_from mo first (keyed_rows (bytes_of (keys_of keys)) (map (λ v. v.now.values) values))) l m
  local_takes_from of keys values mo first l m idxs is js groups fits rows ei ej eg same_schema same_state took firsts enters =
      let Firsts : List ℕ → ℕ → Type 0 = λ gs n. m.first_rows ≡ entered top min (cut_or_filled top l.first_rows n) gs (range_with_len first (length gs)) in
      let Enters : List ℕ → ℕ → Type 0 = λ gs n. PairsFrom (λ r a b. EntersColumn shape holds n gs mo (get_or (map (λ v. v.now.values) values) r []) a b) 0 l.reductions m.reductions in
      local_takes shape holds long states (bytes_of (keys_of keys)) (map (λ v. v.now.values) values) mo first of l m idxs fits
      (length-map values (λ v. v.now.values) ∙ same_long (λ v. v.now.dtype) (λ a. (shape a).dtype) values l.reductions (lent_types shape of keys values (length l.grouper.keys) l.reductions rows fits.is_of.shapes_are))
      (Each-map (λ vs. length vs ≡ length (bytes_of (keys_of keys))) (λ v. v.now.values) values (lent_heights of keys values (length (bytes_of (keys_of keys))) rows (length-map (keys_of keys) (λ k. unwrap_or k []))))
      same_schema same_state (record { keys_are = took.keys_are; idxs_are = took.idxs_are })
      (subst (Firsts idxs) eg (subst (λ (gs : List ℕ). Firsts gs groups) ei firsts))
      (subst (Enters idxs) eg (subst (λ (gs : List ℕ). Enters gs groups) ej enters))
