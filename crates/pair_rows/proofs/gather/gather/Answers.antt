use Rattle.std.proofs.Common.{◌++◌, ◌∷◌, [], List, map, zero-add, sym, ap, ◌∙◌}
use Rattle.std.specs.List.{range_with_len}
use Rattle.std.proofs.lemmas.List.{append_assoc}
use Rattle.std.proofs.lemmas.List.FromFn.{map-range_with_len_more}
use Rattle.col_core.specs.Tables.{Column}
use Rattle.pair_rows.specs.Gathered.{gathered_column}
use Rattle.pair_rows.proofs.gather.gather.Goals as goal

-- one more column
pub loop-c-preserved : goal.loop-c-preserved
loop-c-preserved c =
    let one = gathered_column c.args.prefix.now c.args.schema.now c.args.frames.now c.args.places.now in
    let old = c.args.columns.now.items in
    let i = c.loop-c.c in
    c.in_ok-push.ensures.items
    ∙ ap (λ (cs : List Column). cs ++ c.in_ok-gathered_column.field-0 ∷ []) c.loop-c.invariant
    ∙ ap (λ (x : Column). (old ++ map one (range_with_len 0 i)) ++ x ∷ []) c.in_ok-gathered_column.ensures
    ∙ append_assoc old (map one (range_with_len 0 i)) (one i ∷ [])
    ∙ ap (λ (cs : List Column). old ++ cs) (sym (map-range_with_len_more one 0 i i (zero-add i)))
