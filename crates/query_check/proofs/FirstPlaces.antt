-- The columns that a query names, list by list.
use Rattle.std.proofs.Common.{◌≡◌, ℕ, ◌+◌, List, ◌++◌, map, length, Option, refl, ap, ap₂, ◌∙◌}
use Rattle.std.specs.Prelude.{position}
use Rattle.std.specs.Option.{option_or}
use Rattle.std.proofs.lemmas.List.{length-append, length-map}
use Rattle.list_laws.proofs.Positions.{after, position-append, position-map}
use Rattle.join_query.specs.declared.query.Query.{Query}
use Rattle.join_query.specs.declared.query.Side.{Side}
use Rattle.join_query.specs.declared.query.Side.TheVariants as sides
use Rattle.join_query.specs.declared.query.ColumnRef.{ColumnRef}
use Rattle.join_query.specs.declared.query.Reduction.{Reduction}
use Rattle.join_model.specs.ColumnRefs.{is_unknown, filter_columns}
use Rattle.join_model.specs.Refusals.{unknown_column}

module _ (q : Query) where
  abbrev of_side : Side → List ℕ → ColumnRef
  of_side side name = record { side = side; name = name }

  abbrev builds : List ColumnRef
  builds = map (of_side sides.Build) q.build_keys

  abbrev probes : List ColumnRef
  probes = map (of_side sides.Probe) q.probe_keys

  abbrev keys : List ColumnRef
  keys = builds ++ probes

  abbrev operands : List ColumnRef
  operands = keys ++ filter_columns q.filter

  abbrev groups : List ColumnRef
  groups = operands ++ q.group_keys

  abbrev first : List ColumnRef → Option ℕ
  first refs = position (is_unknown q) refs

  -- the first place in a list and one after it, by what is known of the two
  one_more : (xs ys : List ColumnRef) {a o : Option ℕ} {n : ℕ} → first xs ≡ a → length xs ≡ n → first ys ≡ o → first (xs ++ ys) ≡ option_or a (after n o)
  one_more xs ys at long later = position-append (is_unknown q) xs ys ∙ rw (at, long, later) refl

  -- the first unknown column, list by list
  pub by_lists : unknown_column q ≡ option_or (option_or (option_or (option_or
      (position (λ name. is_unknown q (of_side sides.Build name)) q.build_keys)
      (after (length q.build_keys) (position (λ name. is_unknown q (of_side sides.Probe name)) q.probe_keys)))
      (after (length q.build_keys + length q.probe_keys) (first (filter_columns q.filter))))
      (after (length q.build_keys + length q.probe_keys + length (filter_columns q.filter)) (first q.group_keys)))
      (after (length q.build_keys + length q.probe_keys + length (filter_columns q.filter) + length q.group_keys) (position (λ (r : Reduction). is_unknown q r.column) q.reductions))
  by_lists =
      let long_builds = length-map q.build_keys (of_side sides.Build) in
      let long_keys = length-append builds probes ∙ ap₂ (λ m n. m + n) long_builds (length-map q.probe_keys (of_side sides.Probe)) in
      let long_operands = length-append keys (filter_columns q.filter) ∙ ap (λ n. n + length (filter_columns q.filter)) long_keys in
      let long_groups = length-append operands q.group_keys ∙ ap (λ n. n + length q.group_keys) long_operands in
      one_more groups (map (λ r. r.column) q.reductions) (
      one_more operands q.group_keys (
      one_more keys (filter_columns q.filter) (
      one_more builds probes (position-map (is_unknown q) (of_side sides.Build) q.build_keys) long_builds (position-map (is_unknown q) (of_side sides.Probe) q.probe_keys))
      long_keys refl) long_operands refl) long_groups (position-map (is_unknown q) (λ (r : Reduction). r.column) q.reductions)
