-- Local states merged one after the other.
use Rattle.std.proofs.Common.{◌≡◌, ℕ, zero, suc, ◌+◌, ◌<◌, min, List, [], ◌∷◌, ◌++◌, map, flat_map, length, get_or, take, refl, sym, ap, ap₂, ◌∙◌, subst, bytes_eq}
use Rattle.std.proofs.lemmas.List.{length-map, map-append, take_more}
use Rattle.std.proofs.lemmas.Slice.Eq.{bytes_eq-Decides}
use Rattle.col_core.specs.declared.schema.Field.{Field}
use Rattle.key_parts.specs.declared.hash.PlRandomState.{PlRandomState}
use Rattle.key_groups.specs.Groups.{KeyGroups, with_keys}
use Rattle.key_groups.specs.Taken.{TookKeys as Came}
use Rattle.reduce_states.specs.States.{State}
use Rattle.reduce_states.specs.Moves.{entered, cut_or_filled}
use Rattle.reduce_states.specs.Reductions.{Shape}
use Rattle.list_laws.specs.Each.{Each}
use Rattle.list_laws.specs.Distinct.{NoRepeat, distinct}
use Rattle.list_laws.specs.Places.{PairsFrom, At}
use Rattle.join_laws.specs.Locals.{Local, merged}
use Rattle.join_laws.specs.Steps.{TookKeys, MergedSoFar, combined, resized}
use Rattle.join_laws.proofs.Merges.{merges_more}
use Rattle.group_locals.specs.declared.local.LocalState.{LocalState}
use Rattle.group_locals.specs.Rows.{start_of, merge_of, top}
use Rattle.group_locals.specs.Locals.{Grouping, LocalFits, sized}
use Rattle.group_locals.specs.Columns.{AreEmptied, CombinesColumn, IsEmptied, entered_states}
use Rattle.group_locals.specs.Merging.{places_in, LocalMerges, keys_in, first_column, merged_first, AreColumns, merged_state, MergesAll}
use Rattle.group_locals.proofs.Entered.{entered_combined}
use Rattle.group_locals.proofs.Pairs.{pairs_alike, alike_pairs, pairs_both, pairs_via, at_both, each_at_place}
use Rattle.group_locals.proofs.Takes.{groups_are}

module _ {R : Type 0} (holds : R → List State → Type 0) where
  -- columns of local states and one more are columns of these, and one
  last_column : (r : ℕ) (done : List (LocalState R)) (o : LocalState R) (cs : List (Local (List ℕ) State)) → AreColumns holds r (done ++ o ∷ []) cs → (ds : List (Local (List ℕ) State)) × (c : Local (List ℕ) State) × (cs ≡ ds ++ c ∷ []) × AreColumns holds r done ds × (c.keys ≡ o.grouper.keys) × At (λ a. holds a c.values) r o.reductions
  last_column r [] o [] h = absurd h
  last_column r [] o (c ∷ []) h = ([], c, refl, tt, h.0, h.1)
  last_column r [] o (c ∷ (d ∷ ds)) h = absurd h.2
  last_column r (l ∷ ls) o [] h = absurd h
  last_column r (l ∷ ls) o (c ∷ cs) h =
      let rest = last_column r ls o cs h.2 in
      (c ∷ rest.0, rest.1, ap (λ (t : List (Local (List ℕ) State)). c ∷ t) rest.2, (h.0, h.1, rest.3), rest.4, rest.5)

  column_keys : (r : ℕ) (done : List (LocalState R)) (cs : List (Local (List ℕ) State)) → AreColumns holds r done cs → keys_in done ≡ flat_map (λ c. c.keys) cs
  column_keys r [] [] h = refl
  column_keys r [] (c ∷ cs) h = absurd h
  column_keys r (l ∷ ls) [] h = absurd h
  column_keys r (l ∷ ls) (c ∷ cs) h = ap₂ (λ (a b : List (List ℕ)). a ++ b) (sym h.0) (column_keys r ls cs h.2)

pub first_keys : {R : Type 0} (ls : List (LocalState R)) → keys_in ls ≡ flat_map (λ c. c.keys) (map first_column ls)
first_keys [] = refl
first_keys (l ∷ ls) = ap (λ (t : List (List ℕ)). l.grouper.keys ++ t) (first_keys ls)

-- what the calls of a merge leave, each with its own name for a list
pub local_merges_from : {R : Type 0} (shape : R → Shape) (holds : R → List State → Type 0) (l o m : LocalState R) (idxs is js fs : List ℕ) (os : List R) (groups : ℕ) → is ≡ idxs → js ≡ idxs → fs ≡ o.first_rows → os ≡ o.reductions → groups ≡ length m.grouper.keys → m.grouper.schema ≡ l.grouper.schema → m.grouper.state ≡ l.grouper.state → Came bytes_eq o.grouper.keys l.grouper.keys m.grouper.keys idxs → m.first_rows ≡ entered top min (cut_or_filled top l.first_rows groups) is fs → PairsFrom (λ r a b. At (λ c. CombinesColumn shape holds groups js a c b) r os) 0 l.reductions m.reductions → LocalMerges shape holds l o m
local_merges_from {R} shape holds l o m idxs is js fs os groups ei ej ef eo eg same_schema same_state took firsts combines =
    let gs = places_in m.grouper.keys o.grouper.keys in
    let Firsts : List ℕ → List ℕ → ℕ → Type 0 = λ hs vs n. m.first_rows ≡ entered top min (cut_or_filled top l.first_rows n) hs vs in
    let Combines : List ℕ → List R → ℕ → Type 0 = λ hs cs n. PairsFrom (λ r a b. At (λ c. CombinesColumn shape holds n hs a c b) r cs) 0 l.reductions m.reductions in
    record {
      grouper_is = grouped took.keys_are same_schema same_state;
      firsts_are = subst (Firsts gs o.first_rows) eg (subst (λ (vs : List ℕ). Firsts gs vs groups) ef (subst (λ (hs : List ℕ). Firsts hs fs groups) (ei ∙ took.idxs_are) firsts));
      columns = subst (Combines gs o.reductions) eg (subst (λ (cs : List R). Combines gs cs groups) eo (subst (λ (hs : List ℕ). Combines hs os groups) (ej ∙ took.idxs_are) combines));
    }
  where
    made : List (List ℕ) → List Field → PlRandomState → KeyGroups
    made ks s t = record { keys = ks; schema = s; state = t }

    grouped : m.grouper.keys ≡ with_keys l.grouper.keys o.grouper.keys → m.grouper.schema ≡ l.grouper.schema → m.grouper.state ≡ l.grouper.state → m.grouper ≡ record l.grouper { keys = with_keys l.grouper.keys o.grouper.keys }
    grouped ek es et = ap₂ (λ (ks : List (List ℕ)) (s : List Field). made ks s m.grouper.state) ek es ∙ ap (made (with_keys l.grouper.keys o.grouper.keys) l.grouper.schema) et

module _ {R : Type 0} (shape : R → Shape) (holds : R → List State → Type 0) (long : (a : R) (xs : List State) → holds a xs → length xs ≡ (shape a).groups) (of : Grouping) where
  module _ (done : List (LocalState R)) (l o m : LocalState R) (fits : LocalFits shape of o) (so : MergesAll shape holds of done l) (merges : LocalMerges shape holds l o m) where
    new_keys : m.grouper.keys ≡ with_keys l.grouper.keys o.grouper.keys
    new_keys = ap (λ (g : KeyGroups). g.keys) merges.grouper_is

    took : TookKeys bytes_eq o.grouper.keys l.grouper.keys m.grouper.keys (places_in m.grouper.keys o.grouper.keys)
    took = record { keys_are = new_keys; idxs_are = refl }

    -- first rows
    firsts_merged : MergedSoFar bytes_eq min top (map first_column done ++ first_column o ∷ []) m.grouper.keys m.first_rows
    firsts_merged = merges_more bytes_eq bytes_eq-Decides min top (map first_column done) (first_column o) l.grouper.keys m.grouper.keys l.first_rows m.first_rows (places_in m.grouper.keys o.grouper.keys) [] fits.distinct fits.long (record { keys_are = so.keys_are ∙ ap (distinct bytes_eq) (first_keys done); values_are = so.firsts_are }) took (merges.firsts_are ∙ entered_combined top min o.grouper.keys l.grouper.keys m.grouper.keys (places_in m.grouper.keys o.grouper.keys) l.first_rows o.first_rows took (ap length so.firsts_are ∙ length-map l.grouper.keys (merged_first done)))

    -- the states of one reduction, under the shape s
    values_merged : (s : Shape) (ds : List (Local (List ℕ) State)) (c : Local (List ℕ) State) → c.keys ≡ o.grouper.keys → length c.values ≡ length o.grouper.keys → keys_in done ≡ flat_map (λ c. c.keys) ds → entered_states s (length m.grouper.keys) (places_in m.grouper.keys o.grouper.keys) (map (merged_state s ds) l.grouper.keys) c.values ≡ map (merged_state s (ds ++ c ∷ [])) m.grouper.keys
    values_merged s ds c same size ks =
        let xs = map (merged_state s ds) l.grouper.keys in
        let gs = places_in m.grouper.keys o.grouper.keys in
        let took' : TookKeys bytes_eq c.keys l.grouper.keys m.grouper.keys gs = subst (λ (z : List (List ℕ)). TookKeys bytes_eq z l.grouper.keys m.grouper.keys gs) (sym same) took in
        entered_combined (start_of s) (merge_of s) o.grouper.keys l.grouper.keys m.grouper.keys gs xs c.values took (length-map l.grouper.keys (merged_state s ds))
        ∙ (merges_more bytes_eq bytes_eq-Decides (merge_of s) (start_of s) ds c l.grouper.keys m.grouper.keys xs (combined (start_of s) (merge_of s) gs c.values (resized (start_of s) xs (length m.grouper.keys))) gs [] (subst (NoRepeat bytes_eq) (sym same) fits.distinct) (size ∙ ap length (sym same)) (record { keys_are = so.keys_are ∙ ap (distinct bytes_eq) ks; values_are = refl }) took' refl).values_are

    state_merged : (r : ℕ) (s : Shape) (a b : R) → shape a ≡ sized (length l.grouper.keys) s → ((cs : List (Local (List ℕ) State)) → AreColumns holds r done cs → holds a (map (merged_state s cs) l.grouper.keys)) → At (λ c. CombinesColumn shape holds (length m.grouper.keys) (places_in m.grouper.keys o.grouper.keys) a c b) r o.reductions → (cs : List (Local (List ℕ) State)) → AreColumns holds r (done ++ o ∷ []) cs → holds b (map (merged_state s cs) m.grouper.keys)
    state_merged r s a b is before combines cs h =
        let split = last_column holds r done o cs h in
        let ds = split.0 in
        let c = split.1 in
        let xs = map (merged_state s ds) l.grouper.keys in
        let gs = places_in m.grouper.keys o.grouper.keys in
        at_both (λ x. holds x c.values) (λ x. CombinesColumn shape holds (length m.grouper.keys) gs a x b) (λ x. (shape x).groups ≡ length o.grouper.keys) (holds b (map (merged_state s cs) m.grouper.keys)) (λ x size hx comb.
        let same = ap (λ (t : Shape). entered_states t (length m.grouper.keys) gs xs c.values) is in
        let now = values_merged s ds c split.4 (long x c.values hx ∙ size) (column_keys holds r done ds split.3) in
        subst (holds b) (same ∙ now ∙ ap (λ (zs : List (Local (List ℕ) State)). map (merged_state s zs) m.grouper.keys) (sym split.2)) (comb.states xs c.values (before ds split.3) hx))
        r o.reductions (groups_are shape (length o.grouper.keys) of.shapes o.reductions fits.is_of.shapes_are) split.5 combines

    -- one more local state was merged
    pub merges_next : MergesAll shape holds of (done ++ o ∷ []) m
    merges_next =
        let n = length l.grouper.keys in
        let k = length m.grouper.keys in
        let Before : ℕ → Shape → R → Type 0 = λ r s a. (shape a ≡ sized n s) × ((cs : List (Local (List ℕ) State)) → AreColumns holds r done cs → holds a (map (merged_state s cs) l.grouper.keys)) in
        let Combines : ℕ → R → R → Type 0 = λ r a b. At (λ c. CombinesColumn shape holds k (places_in m.grouper.keys o.grouper.keys) a c b) r o.reductions in
        let before = pairs_both (λ r s a. shape a ≡ sized n s) (λ r s a. (cs : List (Local (List ℕ) State)) → AreColumns holds r done cs → holds a (map (merged_state s cs) l.grouper.keys)) Before (λ r s a p q. (p, q)) 0 of.shapes l.reductions (pairs_alike (sized n) shape 0 of.shapes l.reductions so.is_of.shapes_are) so.states in
        let shapes = pairs_via Before Combines (λ r s b. shape b ≡ sized k s) (λ r s a b p q. at_both (λ c. Unit {0}) (λ c. CombinesColumn shape holds k (places_in m.grouper.keys o.grouper.keys) a c b) (λ c. (shape c).groups ≡ length o.grouper.keys) (shape b ≡ sized k s) (λ c g u comb. comb.shape_is ∙ ap (sized k) p.0) r o.reductions (groups_are shape (length o.grouper.keys) of.shapes o.reductions fits.is_of.shapes_are) (at_any (λ c. CombinesColumn shape holds k (places_in m.grouper.keys o.grouper.keys) a c b) r o.reductions q) q) 0 of.shapes l.reductions m.reductions before merges.columns in
        record {
          is_of = record { schema_is = ap (λ (g : KeyGroups). g.schema) merges.grouper_is ∙ so.is_of.schema_is; state_is = ap (λ (g : KeyGroups). g.state) merges.grouper_is ∙ so.is_of.state_is; shapes_are = alike_pairs (sized k) shape 0 of.shapes m.reductions shapes };
          keys_are = firsts_merged.keys_are ∙ ap (distinct bytes_eq) (sym (first_keys (done ++ o ∷ []) ∙ ap (flat_map (λ c. c.keys)) (map-append first_column done (o ∷ []))));
          firsts_are = firsts_merged.values_are ∙ ap (λ (cs : List (Local (List ℕ) ℕ)). map (merged bytes_eq min top cs) m.grouper.keys) (sym (map-append first_column done (o ∷ [])));
          states = pairs_via Before Combines (λ r s b. (cs : List (Local (List ℕ) State)) → AreColumns holds r (done ++ o ∷ []) cs → holds b (map (merged_state s cs) m.grouper.keys)) (λ r s a b p q. state_merged r s a b p.0 p.1 q) 0 of.shapes l.reductions m.reductions before merges.columns;
        }
      where
        at_any : {X : Type 0} (P : X → Type 0) (i : ℕ) (xs : List X) → At P i xs → At (λ x. Unit {0}) i xs
        at_any P i [] h = absurd h
        at_any P zero (x ∷ xs) h = tt
        at_any P (suc i) (x ∷ xs) h = at_any P i xs h

  -- nothing was merged yet
  pub merges_none : (n : ℕ) (l : LocalState R) (rs : List R) (g : KeyGroups) → g.schema ≡ of.schema → g.state ≡ of.state → map shape rs ≡ map (sized n) of.shapes → l.grouper ≡ record g { keys = [] } → l.first_rows ≡ [] → AreEmptied shape holds rs l.reductions → MergesAll shape holds of [] l
  merges_none n l rs g schema state shapes grouper firsts empty =
      let none : l.grouper.keys ≡ [] = ap (λ (z : KeyGroups). z.keys) grouper in
      let alike = pairs_alike (sized n) shape 0 of.shapes rs shapes in
      record {
        is_of = record {
          schema_is = ap (λ (z : KeyGroups). z.schema) grouper ∙ schema;
          state_is = ap (λ (z : KeyGroups). z.state) grouper ∙ state;
          shapes_are = alike_pairs (sized (length l.grouper.keys)) shape 0 of.shapes l.reductions (pairs_via (λ r s a. shape a ≡ sized n s) (λ r a b. IsEmptied shape holds a b) (λ r s b. shape b ≡ sized (length l.grouper.keys) s) (λ r s a b p q. q.shape_is ∙ ap (sized 0) p ∙ ap (λ (k : ℕ). sized k s) (sym (ap length none))) 0 of.shapes rs l.reductions alike empty);
        };
        keys_are = none;
        firsts_are = firsts ∙ ap (map (merged_first {R = R} [])) (sym none);
        states = pairs_via (λ r s a. shape a ≡ sized n s) (λ r a b. IsEmptied shape holds a b) (λ r s b. (cs : List (Local (List ℕ) State)) → AreColumns holds r [] cs → holds b (map (merged_state s cs) l.grouper.keys)) (λ r s a b p q cs h. subst (λ (ks : List (List ℕ)). holds b (map (merged_state s cs) ks)) (sym none) q.none) 0 of.shapes rs l.reductions alike empty;
      }

  -- the loop's step, at a place
  pub merges_at : (ls : List (LocalState R)) (i : ℕ) (o l m : LocalState R) → i < length ls → o ≡ get_or ls i o → Each (LocalFits shape of) ls → MergesAll shape holds of (take i ls) l → LocalMerges shape holds l o m → MergesAll shape holds of (take (i + 1) ls) m
  merges_at ls i o l m h e fits so merges = subst (λ (ds : List (LocalState R)). MergesAll shape holds of ds m) (sym (take_more ls i o h ∙ ap (λ (z : LocalState R). take i ls ++ z ∷ []) (sym e))) (merges_next (take i ls) l o m (subst (LocalFits shape of) (sym e) (each_at_place (LocalFits shape of) ls i o h fits)) so merges)
