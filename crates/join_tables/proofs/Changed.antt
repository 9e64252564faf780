-- Tables of which the first partitions have changed, one more and all.
use Rattle.std.proofs.Common.{◌≡◌, ℕ, ◌+◌, ◌<◌, ◌≤◌, List, [], ◌∷◌, zero, suc, map, length, get_or, take, slice_get, slice_set, Some, refl, sym, ap, ◌∙◌, subst, inl, inr, arith}
use Rattle.std.specs.List.{range_with_len}
use Rattle.std.proofs.lemmas.Bool.{cases_eq, cases_lt}
use Rattle.std.proofs.lemmas.List.{length-set}
use Rattle.key_parts.specs.declared.hash.PlRandomState.{PlRandomState}
use Rattle.hash_keys.specs.Keys.{Key}
use Rattle.chunked_idx_table.specs.Probes.{joins_any, keys_at, marked_more}
use Rattle.chunked_idx_table.specs.Tables.{ProbeTable}
use Rattle.list_laws.proofs.Lists.{made_same}
use Rattle.join_laws.specs.Partitions.{no_table, AreFronts}
use Rattle.join_laws.proofs.Fronts.{front_none, front_whole}
use Rattle.join_tables.specs.Tables.{HaveState}
use Rattle.join_tables.specs.Changed.{ChangedUpTo}

-- a table that is written, and the others
pub written_here : (ts : List ProbeTable) (p : ℕ) (t : ProbeTable) → p < length ts → get_or (slice_set ts p t) p no_table ≡ t
written_here [] p t h = absurd (omega arith)
written_here (x ∷ ts) zero t h = refl
written_here (x ∷ ts) (suc p) t h = written_here ts p t (omega arith)

pub written_other : (ts : List ProbeTable) (p q : ℕ) (t : ProbeTable) → (q ≡ p → ⊥) → get_or (slice_set ts p t) q no_table ≡ get_or ts q no_table
written_other [] p q t h = refl
written_other (x ∷ ts) zero zero t h = absurd (h refl)
written_other (x ∷ ts) zero (suc q) t h = refl
written_other (x ∷ ts) (suc p) zero t h = refl
written_other (x ∷ ts) (suc p) (suc q) t h = written_other ts p q t (λ e. h (ap suc e))

-- a table that is lent
pub lent_is : (ts : List ProbeTable) (p : ℕ) (t d : ProbeTable) → slice_get ts p ≡ Some t → t ≡ get_or ts p d
lent_is [] p t d e = cc
lent_is (x ∷ ts) zero t d e = cc
lent_is (x ∷ ts) (suc p) t d e = lent_is ts p t d e

module _ (F : ℕ → ProbeTable → ProbeTable) where
  pub changed_none : (olds : List ProbeTable) → ChangedUpTo F 0 olds olds
  changed_none olds = record { long = refl; done = λ q h. absurd (omega arith); rest = λ q h. refl }

  pub changed_more : (p : ℕ) (olds news : List ProbeTable) (new : ProbeTable) → ChangedUpTo F p olds news → p < length olds → new ≡ F p (get_or olds p no_table) → ChangedUpTo F (p + 1) olds (slice_set news p new)
  changed_more p olds news new c h e = record {
    long = length-set news p new ∙ c.long;
    done = λ q l. elim (cases_eq q p) [
      | inl same ↦
          let P : ℕ → Type 0 = λ r. get_or (slice_set news p new) r no_table ≡ F r (get_or olds r no_table) in
          subst P (sym same) (written_here news p new (omega (arith, c.long)) ∙ e)
      | inr other ↦ written_other news p q new other ∙ c.done q (omega arith)
    ];
    rest = λ q l. written_other news p q new (λ s. omega arith) ∙ c.rest q (omega arith);
  }

  pub changed_all : (p : ℕ) (olds news : List ProbeTable) → ChangedUpTo F p olds news → length olds ≤ p → news ≡ map (λ q. F q (get_or olds q no_table)) (range_with_len 0 (length olds))
  changed_all p olds news c h = sym (made_same (λ q. F q (get_or olds q no_table)) (length olds) news no_table c.long (λ q l. sym (c.done q (omega arith))))

  -- the next table, which is lent, is as it was
  pub next_table : (p : ℕ) (olds news : List ProbeTable) (t : ProbeTable) → ChangedUpTo F p olds news → slice_get news p ≡ Some t → t ≡ get_or olds p no_table
  next_table p olds news t c e = lent_is news p t no_table e ∙ c.rest p (omega arith)

-- where the rows of the first partitions are marked, and a front of the rows of the next
pub fronts_marked : (keys : List Key) (lists : List (List ℕ)) (p n : ℕ) (olds news : List ProbeTable) (new : ProbeTable) → ChangedUpTo (λ q t. marked_more (joins_any (keys_at keys (get_or lists q []))) t) p olds news → p < length olds → new ≡ marked_more (joins_any (keys_at keys (take n (get_or lists p [])))) (get_or olds p no_table) → AreFronts keys lists olds (slice_set news p new)
fronts_marked keys lists p n olds news new c h e q = elim (cases_eq q p) [
  | inl same ↦
      let P : ℕ → Type 0 = λ r. (n : ℕ) × (get_or (slice_set news p new) r no_table ≡ marked_more (joins_any (keys_at keys (take n (get_or lists r [])))) (get_or olds r no_table)) in
      subst P (sym same) (n, written_here news p new (omega (arith, c.long)) ∙ e)
  | inr other ↦ elim (cases_lt q p) [
    | inl less ↦ (length (get_or lists q []), written_other news p q new other ∙ c.done q less ∙ front_whole keys (get_or lists q []) (get_or olds q no_table))
    | inr past ↦ (0, written_other news p q new other ∙ c.rest q past ∙ front_none keys (get_or lists q []) (get_or olds q no_table))
  ]
]

-- the state of the table of a partition
pub state_here : (state : PlRandomState) (ts : List ProbeTable) (p : ℕ) → HaveState state ts → p < length ts → state ≡ (get_or ts p no_table).state
state_here state ts p h l = h p no_table l
