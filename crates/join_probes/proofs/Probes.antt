-- What stands once some rows have been probed: each key is marked that one of them joins.
use Rattle.std.proofs.Common.{◌≡◌, ℕ, Bool, false, not, ◌||◌, List, [], ◌∷◌, ◌++◌, map, filter, Some, None, refl, sym, ap, ap₂, ◌∙◌, bytes_eq}
use Rattle.std.specs.List.{All, list_any}
use Rattle.std.proofs.lemmas.List.{map-append}
use Rattle.std.proofs.lemmas.List.Elements.{All-append, All-nil}
use Rattle.list_laws.specs.Each.{Each}
use Rattle.list_laws.proofs.Each.{Each-from_All, Each-weaker}
use Rattle.list_laws.proofs.Filters.{filter_same}
use Rattle.list_laws.proofs.Keys.{list_any-append, list_any-map}
use Rattle.col_core.specs.Tables.{Row, Table}
use Rattle.hash_keys.specs.Keys.{Key}
use Rattle.chunked_idx_table.specs.Probes.{is_key, joins_any}
use Rattle.join_laws.proofs.Morsels.{stands_as}
use Rattle.join_laws.specs.Deals.{keys_join}
use Rattle.join_laws.specs.Outer.{is_outer}
use Rattle.join_laws.specs.Partitions.{unmarked}
use Rattle.join_query.specs.declared.query.Query.{Query}
use Rattle.join_model.specs.Joined.{rows_of, rows_join}
use Rattle.join_tables.specs.declared.built.Built.{Built}
use Rattle.join_tables.specs.Tables.{part_of}
use Rattle.join_probes.specs.AnswerTables.{answer_tables}
use Rattle.join_probes.specs.Keys.{build_key, probe_key, HasKey}
use Rattle.join_probes.specs.Probed.{plan_of, build_frame_keys, is_joined, is_unmatched, CanJoin, HasProbed, IsBuilt}
use Rattle.join_probes.proofs.KeyBytes.{keys_join_rows}

-- a key is that of a row exactly where the row's key joins it
key_is : (j : List ℕ) (ps : List Key) → joins_any ps j ≡ list_any (λ p. keys_join bytes_eq p (Some j)) ps
key_is j [] = refl
key_is j (None ∷ ps) = key_is j ps
key_is j (Some k ∷ ps) = ap (λ (b : Bool). bytes_eq j k || b) (key_is j ps)

null_joins_none : (ps : List Key) → list_any (λ p. keys_join bytes_eq p None) ps ≡ false
null_joins_none [] = refl
null_joins_none (None ∷ ps) = null_joins_none ps
null_joins_none (Some k ∷ ps) = null_joins_none ps

outer_is : (o : Key) (ps : List Key) → is_outer (joins_any ps) o ≡ not (list_any (λ p. keys_join bytes_eq p o) ps)
outer_is None ps = ap not (sym (null_joins_none ps))
outer_is (Some j) ps = ap not (key_is j ps)

any_same : {X : Type 0} (f g : X → Bool) (xs : List X) → Each (λ x. f x ≡ g x) xs → list_any f xs ≡ list_any g xs
any_same f g [] h = refl
any_same f g (x ∷ xs) h = ap₂ (λ (a b : Bool). a || b) h.0 (any_same f g xs h.1)

-- the keys of more rows
joined_more : (q : Query) (probed rows : List Row) (k : List ℕ) → (is_joined q probed k || is_joined q rows k) ≡ is_joined q (probed ++ rows) k
joined_more q probed rows k = sym (ap (λ (ks : List Key). joins_any ks k) (map-append (probe_key q) probed rows) ∙ list_any-append (is_key k) (map (probe_key q) probed) (map (probe_key q) rows))

-- tables that are just built
pub none_probed : (q : Query) (build : List Table) (built : Built) → IsBuilt q build unmarked built → HasProbed q build [] built
none_probed q build built h = record {
  built = record { stands = h.stands; build_keys = h.build_keys };
  spelled = All-nil (HasKey q.probe_schema q.probe_keys);
}

-- the keys of more rows are marked
pub probed_more : (q : Query) (build : List Table) (probed rows : List Row) (old new : Built) → HasProbed q build probed old → All (HasKey q.probe_schema q.probe_keys) rows
    → IsBuilt q build (λ k. is_joined q probed k || is_joined q rows k) new → HasProbed q build (probed ++ rows) new
probed_more q build probed rows old new h spelled b =
    let plan = plan_of q in record {
      built = record {
        stands = stands_as (part_of plan) plan.state plan.partitioner.partitions (build_frame_keys q build) (λ k. is_joined q probed k || is_joined q rows k) (is_joined q (probed ++ rows)) new.tables new.places (joined_more q probed rows) b.stands;
        build_keys = b.build_keys;
      };
      spelled = All-append (HasKey q.probe_schema q.probe_keys) probed rows h.spelled spelled;
    }

-- the build rows of null keys and of keys that are not marked are those that no probe row joins
pub unmatched_are : (q : Query) (build : List Table) (probed : List Row) (built : Built) → CanJoin q → HasProbed q build probed built
    → filter (λ b. is_outer (is_joined q probed) (build_key q b)) (rows_of build) ≡ filter (is_unmatched q probed) (rows_of build)
unmatched_are q build probed built can h =
    filter_same _ (is_unmatched q probed) (rows_of build) (Each-weaker (HasKey q.build_schema q.build_keys) (λ b. is_outer (is_joined q probed) (build_key q b) ≡ is_unmatched q probed b) (rows_of build) one (Each-from_All (HasKey q.build_schema q.build_keys) (rows_of build) h.built.build_keys))
  where
    one : (b : Row) → HasKey q.build_schema q.build_keys b → is_outer (is_joined q probed) (build_key q b) ≡ is_unmatched q probed b
    one b hb =
        outer_is (build_key q b) (map (probe_key q) probed)
        ∙ ap not (list_any-map (λ p. keys_join bytes_eq p (build_key q b)) (probe_key q) probed ∙ any_same _ (λ p. rows_join q p b) probed (Each-weaker (HasKey q.probe_schema q.probe_keys) (λ p. keys_join bytes_eq (probe_key q p) (build_key q b) ≡ rows_join q p b) probed (λ p hp. keys_join_rows q p b can.types hp hb) (Each-from_All (HasKey q.probe_schema q.probe_keys) probed h.spelled)))

-- once all probe rows have been probed the tables are those of the answer
pub tables_answered : (q : Query) (build probe : List Table) (built : Built) → HasProbed q build (rows_of probe) built → built.tables ≡ answer_tables q build probe
tables_answered q build probe built h = h.built.stands.tables_are
