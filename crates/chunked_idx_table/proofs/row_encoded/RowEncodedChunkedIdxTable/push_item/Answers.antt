use Rattle.std.proofs.Common.{◌≡◌, ◌<◌, ◌-◌, ◌++◌, ◌∷◌, ◌∙◌, [], List, Bool, true, false, Option, Some, cond, map, length, sym, ap, append-nil, arith}
use Rattle.std.proofs.lemmas.List.{length-map, map-append}
use Rattle.std.proofs.lemmas.Result.{on_ok_weaker}
use Rattle.key_parts.specs.Positions.{Position, position}
use Rattle.chunked_idx_table.specs.Tables.{ProbeTable}
use Rattle.chunked_idx_table.specs.Words.{position_at, position_kept, has_mark}
use Rattle.chunked_idx_table.proofs.Marks.{some_at, some_map}
use Rattle.chunked_idx_table.proofs.Rows.{item_null, item_entry}
use Rattle.chunked_idx_table.proofs.row_encoded.RowEncodedChunkedIdxTable.push_item.Goals as goal

pub returns-then-i-nulls-clause-ok : goal.returns-then-i-nulls-clause-ok
returns-then-i-nulls-clause-ok c =
    let ids = c.self.inside.nulls.items in
    let t = c.args.self.now in
    let h : c.args.i < length ids = omega (arith, c.len-nulls.ensures, c.if-i-nulls.true) in
    ap (map position) c.in_ok-push.ensures.items
    ∙ map-append position c.args.out.now.items (c.index.result.now ∷ [])
    ∙ ap (λ (ps : List (Option Position)). map position c.args.out.now.items ++ ps) (item_null ids t c.args.i c.index.result.now c.self.invariant.positions (ap (λ (u : ProbeTable). u.nulls) c.self.view_is) h c.index.ensures)

pub is_marked-requires : goal.is_marked-requires
is_marked-requires c = rw c.as_slice-words.ensures (some_at c.self.inside.random_state c.self.inside.known.entries (c.args.i - c.len-nulls.result) c.value_at.result.now c.self.invariant.keys c.value_at.ensures)

pub returns-then-is_marked-clause-ok : goal.returns-then-is_marked-clause-ok
returns-then-is_marked-clause-ok c =
    let ids = c.self.inside.nulls.items in
    let t = c.args.self.now in
    let n = c.len-nulls.result in
    let v = c.value_at.result.now in
    let long : n ≡ length t.nulls = omega (arith, c.len-nulls.ensures, length-map ids position_at, ap (λ (u : ProbeTable). length u.nulls) c.self.view_is) in
    let item = item_entry c.self.inside.known.entries t c.args.i n v (ap (λ (u : ProbeTable). u.entries) c.self.view_is) long c.if-i-nulls.false c.value_at.ensures in
    let marked : has_mark v.items ≡ true = ap has_mark (sym c.as_slice-words.ensures) ∙ sym c.is_marked.ensures ∙ c.if-is_marked.true in
    let none = item ∙ ap (λ (b : Bool). cond b [] (map position_kept v.items)) marked in
    let out = map position c.args.out.now.items in
    sym (ap (λ (xs : List Position). out ++ map (λ x. Some x) xs) none ∙ append-nil out)

pub returns-clause-ok : goal.returns-clause-ok
returns-clause-ok c =
    let ids = c.self.inside.nulls.items in
    let t = c.args.self.now in
    let n = c.len-nulls.result in
    let v = c.value_at.result.now in
    let long : n ≡ length t.nulls = omega (arith, c.len-nulls.ensures, length-map ids position_at, ap (λ (u : ProbeTable). length u.nulls) c.self.view_is) in
    let item = item_entry c.self.inside.known.entries t c.args.i n v (ap (λ (u : ProbeTable). u.entries) c.self.view_is) long c.if-i-nulls.false c.value_at.ensures in
    let unmarked : has_mark v.items ≡ false = ap has_mark (sym c.as_slice-words.ensures) ∙ sym c.is_marked.ensures ∙ c.if-is_marked.false in
    let all = item ∙ ap (λ (b : Bool). cond b [] (map position_kept v.items)) unmarked in
    let out = map position c.args.out.now.items in
    let same = ap (map (λ w. Some (position_kept w))) c.as_slice-words.ensures ∙ some_map position_kept v.items ∙ sym (ap (map (λ x. Some x)) all) in
    on_ok_weaker c.push_positions.result (λ e. e ∙ ap (λ (ps : List (Option Position)). out ++ ps) same) c.push_positions.ensures.ok
