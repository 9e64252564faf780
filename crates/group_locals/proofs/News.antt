-- Local states without groups.
use Rattle.std.proofs.Common.{◌≡◌, ℕ, ◌+◌, ◌<◌, List, [], ◌∷◌, ◌++◌, map, flat_map, length, zip, refl, sym, ap, ap₂, ◌∙◌, subst, bytes_eq}
use Rattle.key_groups.specs.Groups.{KeyGroups}
use Rattle.reduce_states.specs.States.{State}
use Rattle.reduce_states.specs.Reductions.{Shape}
use Rattle.list_laws.specs.Distinct.{NoRepeat}
use Rattle.list_laws.specs.Each.{Each}
use Rattle.list_laws.specs.Places.{PairsFrom}
use Rattle.list_laws.proofs.Each.{Each-weaker}
use Rattle.join_laws.specs.Locals.{of_key}
use Rattle.group_locals.specs.declared.local.LocalState.{LocalState}
use Rattle.group_locals.specs.Rows.{entry_key, column_state, top, first_number}
use Rattle.group_locals.specs.Locals.{Grouping, LocalFits, LocalsFit, FirstsDiffer, grouping_of, kept, sized}
use Rattle.group_locals.specs.Columns.{AreEmptied, IsEmptied}
use Rattle.group_locals.specs.History.{LocalHolds}
use Rattle.group_locals.proofs.Pairs.{alike_pairs, pairs_via}

module _ {R : Type 0} (shape : R → Shape) (holds : R → List State → Type 0) (g : KeyGroups) (rs : List R) where
  -- a local state without groups, like the grouper and the reductions
  pub record IsNew (l : LocalState R) : Type 0 where
    pub grouper_is : l.grouper ≡ record g { keys = [] }
    pub firsts_are : l.first_rows ≡ []
    pub empty : AreEmptied shape holds rs l.reductions

  abbrev of : Grouping
  of = grouping_of g (map shape rs)

  no_keys : (l : LocalState R) → IsNew l → l.grouper.keys ≡ []
  no_keys l new = ap (λ (z : KeyGroups). z.keys) new.grouper_is

  alike : PairsFrom (λ r s a. shape a ≡ s) 0 (map shape rs) rs
  alike = along 0 rs
    where
      along : (n : ℕ) (rs : List R) → PairsFrom (λ r s a. shape a ≡ s) n (map shape rs) rs
      along n [] = tt
      along n (a ∷ more) = (refl, along (n + 1) more)

  pub new_fits : (l : LocalState R) → IsNew l → LocalFits shape (grouping_of g (map shape rs)) l
  new_fits l new = record {
    is_of = record {
      schema_is = ap (λ (z : KeyGroups). z.schema) new.grouper_is;
      state_is = ap (λ (z : KeyGroups). z.state) new.grouper_is;
      shapes_are = alike_pairs (sized (length l.grouper.keys)) shape 0 (map shape rs) l.reductions (pairs_via (λ r s a. shape a ≡ s) (λ r a b. IsEmptied shape holds a b) (λ r s b. shape b ≡ sized (length l.grouper.keys) s) (λ r s a b p q. q.shape_is ∙ ap (sized 0) p ∙ ap (λ (k : ℕ). sized k s) (sym (ap length (no_keys l new)))) 0 (map shape rs) rs l.reductions alike new.empty);
    };
    distinct = subst (NoRepeat bytes_eq) (sym (no_keys l new)) tt;
    long = ap length new.firsts_are ∙ sym (ap length (no_keys l new));
    below = subst (Each (λ f. f < top)) (sym new.firsts_are) tt;
  }

  pub new_holds : (l : LocalState R) → IsNew l → LocalHolds holds (grouping_of g (map shape rs)) [] l
  new_holds l new = record {
    keys_are = no_keys l new;
    firsts_are = new.firsts_are ∙ ap (map (λ k. first_number (of_key bytes_eq entry_key [] k))) (sym (no_keys l new));
    states_are = pairs_via (λ r s a. shape a ≡ s) (λ r a b. IsEmptied shape holds a b) (λ r s b. holds b (map (λ k. column_state s r (of_key bytes_eq entry_key [] k)) l.grouper.keys)) (λ r s a b p q. subst (λ (ks : List (List ℕ)). holds b (map (λ k. column_state s r (of_key bytes_eq entry_key [] k)) ks)) (sym (no_keys l new)) q.none) 0 (map shape rs) rs l.reductions alike new.empty;
  }

  -- new local states fit together
  pub news_fit : (ls : List (LocalState R)) → Each IsNew ls → LocalsFit shape (grouping_of g (map shape rs)) ls
  news_fit ls new = record {
    each = Each-weaker IsNew (LocalFits shape (grouping_of g (map shape rs))) ls new_fits new;
    apart = subst FirstsDiffer (sym (nothing ls new)) tt;
  }
    where
      nothing : (ls : List (LocalState R)) → Each IsNew ls → flat_map kept ls ≡ []
      nothing [] h = refl
      nothing (l ∷ ls) h = ap₂ (λ (a b : List (List ℕ × ℕ)). a ++ b) (ap₂ (λ (ks : List (List ℕ)) (fs : List ℕ). zip ks fs) (no_keys l h.0) h.0.firsts_are) (nothing ls h.1)

  pub news_hold : (ls : List (LocalState R)) → Each IsNew ls → Each (LocalHolds holds (grouping_of g (map shape rs)) []) ls
  news_hold ls new = Each-weaker IsNew (LocalHolds holds (grouping_of g (map shape rs)) []) ls new_holds new
