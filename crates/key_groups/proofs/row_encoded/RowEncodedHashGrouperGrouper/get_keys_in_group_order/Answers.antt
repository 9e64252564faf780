use Rattle.std.proofs.Common.{◌<◌, ◌∷◌, ◌++◌, [], ℕ, List, length, take, sym, ap, subst, ◌∙◌, arith}
use Rattle.std.proofs.lemmas.List.{take_more}
use Rattle.col_core.specs.declared.schema.Field.{Field}
use Rattle.row_code.specs.Spelling.{Spelled, IsSpelling}
use Rattle.key_groups.proofs.Kept.{key_found}
use Rattle.key_groups.proofs.row_encoded.RowEncodedHashGrouperGrouper.get_keys_in_group_order.Goals as goal

pub push_row-requires : goal.push_row-requires
push_row-requires c =
    let keys = c.args.self.now.keys in
    let i = c.loop-i.i in
    let key = c.key.result.now in
    let lt : i < length keys = omega (arith, c.loop-i-test.true, c.num_groups-i-end.ensures.count) in
    subst (λ (s : List Field). IsSpelling s key) (sym c.loop-i.invariant.schema)
    (subst (IsSpelling c.args.self.now.schema) (sym (key_found keys i key c.key.ensures)) (c.num_groups-i-end.ensures.spelled i [] lt))

pub loop-i-preserved : goal.loop-i-preserved
loop-i-preserved c =
    let keys = c.args.self.now.keys in
    let i = c.loop-i.i in
    let key = c.key.result.now in
    let lt : i < length keys = omega (arith, c.loop-i-test.true, c.num_groups-i-end.ensures.count) in
    record {
      schema = ap (λ (s : Spelled). s.schema) c.in_ok-push_row.ensures.ok ∙ c.loop-i.invariant.schema;
      rows = ap (λ (s : Spelled). s.rows) c.in_ok-push_row.ensures.ok
          ∙ ap (λ (rows : List (List ℕ)). rows ++ key ∷ []) c.loop-i.invariant.rows
          ∙ ap (λ (k : List ℕ). take i keys ++ k ∷ []) (key_found keys i key c.key.ensures)
          ∙ sym (take_more keys i [] lt);
    }
