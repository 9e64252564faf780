-- Morsels of rows: the rows of all of them, those that pass the filter, and what local states that took them one after the other hold.
use Rattle.std.proofs.Common.{◌≡◌, ℕ, zero, suc, ◌+◌, ◌<◌, ◌≤◌, eqb, true, false, cond, List, ◌++◌, map, filter, length, refl, sym, ap, ap₂, ◌∙◌, subst, inl, inr, arith}
use Rattle.std.specs.List.{range_with_len, count_by}
use Rattle.std.proofs.lemmas.Bool.{cases_Bool, eqb-true, eqb-false, le-ltb, ne_eqb}
use Rattle.std.proofs.lemmas.List.{length-map}
use Rattle.std.proofs.lemmas.List.Concat.{flat_map-append}
use Rattle.std.proofs.lemmas.List.Folds.{flat_map-map}
use Rattle.std.proofs.lemmas.List.Sums.{sum_by-cons}
use Rattle.list_laws.specs.Orders.{IsWhole}
use Rattle.list_laws.specs.Runs.{runs}
use Rattle.list_laws.proofs.Filters.{filter-flat_map}
use Rattle.list_laws.proofs.Maps.{flat_map-flat_map, flat_map_agree}
use Rattle.list_laws.proofs.Ranges.{Each-range}
use Rattle.list_laws.proofs.Runs.{runs_are}
use Rattle.col_core.specs.Tables.{Row, Table}
use Rattle.any_reduce.specs.Kinds.{any_shape, any_holds}
use Rattle.join_laws.specs.Locals.{rows_of_morsels}
use Rattle.join_query.specs.declared.query.Plan.{Plan}
use Rattle.join_query.specs.declared.query.Query.{Query}
use Rattle.join_model.specs.Answers.{group_schema}
use Rattle.join_model.specs.Filtered.{passes, kept_rows}
use Rattle.join_model.specs.Groups.{group_rows}
use Rattle.join_model.specs.Joined.{joined_rows, rows_of, rows_of_probe}
use Rattle.join_model.specs.Refusals.{is_good_plan, lists_too_many}
use Rattle.group_locals.specs.Merging.{keys_in}
use Rattle.group_locals.specs.Rows.{top}
use Rattle.join_groups.specs.History.{answer_locals}
use Rattle.join_groups.specs.Merged.{AreMergedRows}
use Rattle.join_groups.proofs.Answer.{answer_locals_are, keys_few, merged_rows_are}
use Rattle.join_engine.specs.AnswerLocals.{joined_morsels}
use Rattle.join_engine.specs.Listed.{kept_of_each, outer_rows, probe_morsels, rows_of_each, rows_of_probes, IsListing}
use Rattle.join_engine.specs.declared.listing.Listing.{Listing}
use Rattle.join_engine.proofs.Listed.{fewer_pass, good_morsel, good_rows}

-- the plan has a local state
pub good_states : (plan : Plan) → is_good_plan plan ≡ true → 0 < plan.states
good_states plan h = grind arith

-- the morsels of the probe side have its rows
pub probe_morsels_are : (q : Query) (probe : List Table) → 0 < q.plan.morsel → rows_of_morsels (probe_morsels q probe) ≡ rows_of probe
probe_morsels_are q probe some =
    flat_map-flat_map (λ (m : List Row). m) (λ (frame : Table). runs q.plan.morsel frame.rows) probe
    ∙ flat_map_agree (λ (frame : Table). rows_of_morsels (runs q.plan.morsel frame.rows)) (λ frame. frame.rows) (λ frame. runs_are q.plan.morsel frame.rows some) probe

-- the joined rows of each morsel are those of all their probe rows
pub rows_of_each_are : (q : Query) (build : List Table) (ms : List (List Row)) → rows_of_morsels (rows_of_each q build ms) ≡ rows_of_probes q build (rows_of_morsels ms)
rows_of_each_are q build ms =
    flat_map-map (λ (m : List Row). m) (rows_of_probes q build) ms
    ∙ sym (flat_map-flat_map (rows_of_probe q (rows_of build)) (λ (m : List Row). m) ms)

-- the morsels of joined rows have the nested-loop list
pub joined_morsels_are : (q : Query) (build probe : List Table) → 0 < q.plan.morsel → rows_of_morsels (joined_morsels q build probe) ≡ joined_rows q (rows_of build) (rows_of probe)
joined_morsels_are q build probe some =
    flat_map-append (λ (m : List Row). m) (rows_of_each q build (probe_morsels q probe)) (runs q.plan.morsel (outer_rows q build (rows_of probe)))
    ∙ ap₂ (λ (front outer : List Row). front ++ outer)
    (rows_of_each_are q build (probe_morsels q probe) ∙ ap (rows_of_probes q build) (probe_morsels_are q probe some))
    (runs_are q.plan.morsel (outer_rows q build (rows_of probe)) some)

-- what passes of each morsel is what passes of all their rows
pub kept_of_each_are : (q : Query) (ms : List (List Row)) → rows_of_morsels (kept_of_each q ms) ≡ filter (passes q) (rows_of_morsels ms)
kept_of_each_are q ms =
    flat_map-map (λ (m : List Row). m) (filter (passes q)) ms
    ∙ sym (filter-flat_map (passes q) (λ (m : List Row). m) ms)

-- and so the kept rows of the morsels of joined rows are the kept rows
pub kept_morsels_are : (q : Query) (build probe : List Table) → is_good_plan q.plan ≡ true → rows_of_morsels (kept_of_each q (joined_morsels q build probe)) ≡ kept_rows q (rows_of build) (rows_of probe)
kept_morsels_are q build probe good =
    kept_of_each_are q (joined_morsels q build probe)
    ∙ ap (filter (passes q)) (joined_morsels_are q build probe (good_morsel q.plan good))

-- what is listed is not too much
pub few_morsels : (q : Query) (build probe : List Table) (listing : Listing) → is_good_plan q.plan ≡ true → IsListing q (joined_morsels q build probe) listing → lists_too_many q build probe ≡ false
few_morsels q build probe listing good h =
    le-ltb q.plan.rows (length (joined_rows q (rows_of build) (rows_of probe)))
    (subst (λ (rows : List Row). length rows ≤ q.plan.rows) (joined_morsels_are q build probe (good_morsel q.plan good)) h.within)

-- numbers one after the other: each stands there once
counted_before : (a n k : ℕ) → k < a → count_by (λ x. eqb x k) (range_with_len a n) ≡ 0
counted_before a zero k h = refl
counted_before a (suc n) k h =
    sum_by-cons (λ x. cond (eqb x k) 1 0) a (range_with_len (a + 1) n)
    ∙ rw (ne_eqb a k (λ e. omega arith), counted_before (a + 1) n k (omega arith)) refl

counted_once : (a n k : ℕ) → a ≤ k → k < a + n → count_by (λ x. eqb x k) (range_with_len a n) ≡ 1
counted_once a zero k h l = absurd (omega arith)
counted_once a (suc n) k h l =
    sum_by-cons (λ x. cond (eqb x k) 1 0) a (range_with_len (a + 1) n)
    ∙ elim (cases_Bool (eqb a k)) [
      | inl same ↦
          let is : a ≡ k = eqb-true a k same in
          rw (same, counted_before (a + 1) n k (omega arith)) refl
      | inr apart ↦
          let ne : a ≡ k → ⊥ = eqb-false a k apart in
          rw (apart, counted_once (a + 1) n k (omega arith) (omega arith)) refl
    ]

pub whole_range : (n : ℕ) → IsWhole n (range_with_len 0 n)
whole_range n = record {
  once = λ k l. counted_once 0 n k (omega arith) (omega arith);
  below = Each-range (λ x. x < n) 0 n (λ k a b. omega arith);
}

module _ (q : Query) (ms : List (List Row)) (listing : Listing) (good : is_good_plan q.plan ≡ true) (h : IsListing q ms listing) where
  in_order : IsWhole (length (kept_of_each q ms)) (range_with_len 0 (length ms))
  in_order = subst (λ (n : ℕ). IsWhole n (range_with_len 0 (length ms))) (sym (length-map ms (filter (passes q)))) (whole_range (length ms))

  small : length (rows_of_morsels (kept_of_each q ms)) ≤ top
  small = omega (arith, ap length (kept_of_each_are q ms), fewer_pass (passes q) (rows_of_morsels ms), h.within, good_rows q.plan good)

  -- there is a local state
  pub some_locals : 0 < length listing.locals.items
  some_locals = omega (arith, h.taken.count, good_states q.plan good)

  -- they have no more groups than there are kept rows
  pub few_groups : length (keys_in listing.locals.items) ≤ length listing.kept.rows
  few_groups = omega (arith, keys_few any_shape any_holds q (kept_of_each q ms) (range_with_len 0 (length ms)) listing.locals.items h.taken (good_states q.plan good) in_order small, ap (λ (t : Table). length t.rows) h.kept)

  -- which are the groups of the kept rows, once merged
  pub groups_listed : (t : Table) → AreMergedRows any_holds q listing.locals.items t → t ≡ record { schema = group_schema q; rows = group_rows q (rows_of_morsels (kept_of_each q ms)) }
  groups_listed t are = merged_rows_are any_shape any_holds q (kept_of_each q ms) (range_with_len 0 (length ms)) listing.locals.items h.taken (good_states q.plan good) in_order small t are

  -- and their groupers have the keys of their morsels
  pub groupers_listed : map (λ l. l.grouper) listing.locals.items ≡ answer_locals q (kept_of_each q ms) (range_with_len 0 (length ms))
  groupers_listed = answer_locals_are any_shape any_holds q (kept_of_each q ms) (range_with_len 0 (length ms)) listing.locals.items h.taken
