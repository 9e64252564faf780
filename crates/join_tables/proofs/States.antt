-- The state of tables that stand for some frames.
use Rattle.std.proofs.Common.{◌≡◌, ℕ, Bool, List, refl, sym, subst}
use Rattle.std.specs.List.{All, range_with_len}
use Rattle.key_parts.specs.declared.hash.PlRandomState.{PlRandomState}
use Rattle.hash_keys.specs.Keys.{Key}
use Rattle.chunked_idx_table.specs.Tables.{ProbeTable}
use Rattle.list_laws.proofs.Each.{Each-all, Each-map, All-from_Each}
use Rattle.join_laws.specs.Partitions.{Stands, table_of, tables_of}
use Rattle.join_tables.specs.Tables.{HaveState}

pub stands_state : (part : Key → ℕ) (state : PlRandomState) (n : ℕ) (frames : List (List Key)) (marked : List ℕ → Bool) (ts : List ProbeTable) (ps : List (List (List ℕ))) → Stands part state n frames marked ts ps → HaveState state ts
stands_state part state n frames marked ts ps s =
    let P : ProbeTable → Type 0 = λ t. state ≡ t.state in
    subst (λ (us : List ProbeTable). All P us) (sym s.tables_are) (All-from_Each P (tables_of part state n frames marked) (Each-map P (table_of part state frames marked) (range_with_len 0 n) (Each-all _ _ (λ p. refl))))
