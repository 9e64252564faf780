-- The lines that stand for an answer, and those for the answer to a generated input.
use Rattle.std.specs.Prelude.{ℕ, ◌-◌, List, [], ◌∷◌, ◌++◌, map, take, drop, length, codes}
use Rattle.std.specs.Int.{w64, to_be_bytes}
use Rattle.hex.specs.Hex.{encode_lower}
use Rattle.key_parts.specs.Hashes.{default_state, hash_of}
use Rattle.col_core.specs.Tables.{Table}
use Rattle.table_text.specs.Records.{row_record, records_text}
use Rattle.join_text.specs.Text.{answer_text_of}
use Rattle.join_model.specs.Answers.{answer_rows, answer_groups}
use Rattle.join_generator.specs.Generated.{generated_query, build_table, probe_table}

-- the first and the last item, twice the same where there is one
abbrev pub ends : {X : Type 0} → List X → List X
ends xs = take 1 xs ++ drop (length xs - 1) xs

-- a hash of 64 bits in 16 digits
abbrev pub hash_line : ℕ → List ℕ
hash_line hash = codes "hash " ++ encode_lower (to_be_bytes w64 hash) ++ codes "\n"

-- the records of the first and the last group, and the hash of the text of the whole answer
unfoldable pub answer_lines : Table → Table → List ℕ
answer_lines rows groups =
    records_text (map (row_record (codes "G") groups.schema) (ends groups.rows))
    ++ hash_line (hash_of default_state (answer_text_of rows groups))

-- the lines for the answer to the generated input of n build rows
unfoldable pub generated_text : ℕ → List ℕ
generated_text n =
    let build : List Table = build_table n ∷ [] in
    let probe : List Table = probe_table n ∷ [] in
    answer_lines (answer_rows generated_query build probe) (answer_groups generated_query build probe)
