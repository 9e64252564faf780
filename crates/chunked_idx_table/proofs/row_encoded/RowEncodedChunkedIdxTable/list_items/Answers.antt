use Rattle.std.proofs.Common.{◌≡◌, ◌<◌, ◌≤◌, ◌+◌, ◌-◌, ◌∙◌, [], Some, ap, sym, length, map, take, drop, get_or, List, ℕ, arith}
use Rattle.std.specs.List.{flat_map}
use Rattle.std.proofs.lemmas.List.{length-map, length-drop, get_or-drop}
use Rattle.key_parts.specs.Positions.{Position, position}
use Rattle.chunked_idx_table.specs.Tables.{size_of}
use Rattle.chunked_idx_table.specs.Probes.{items}
use Rattle.chunked_idx_table.proofs.Replies.{counted_at, counted_all}
use Rattle.chunked_idx_table.proofs.Marks.{length-seen}
use Rattle.chunked_idx_table.proofs.Rows.{length-items, listed_turn}
use Rattle.chunked_idx_table.proofs.row_encoded.RowEncodedChunkedIdxTable.list_items.Goals as goal

pub loop-i-preserved : goal.loop-i-preserved
loop-i-preserved c =
    let t = c.args.self.now in
    let offset = c.args.offset in
    let xs = drop offset (items t) in
    let i = c.loop-i.i in
    let long = length-drop offset (items t) in
    let h : i < length xs = omega (arith, long, length-items t, c.saturating_sub-count.ensures, c.num_keys.ensures.count, c.num_null_rows.ensures.count) in
    let inv = c.loop-i.invariant in
    let is = listed_turn xs i (get_or (items t) (offset + i) []) (map position c.loop-i.out.items) (map position c.push_item.new.out.items) h (sym (get_or-drop offset (items t) i [])) inv.so_far c.in_ok-push_item.ensures.ok in
    record { so_far = is; few = λ _. omega arith }

pub returns-then-len-limit-clause-count : goal.returns-then-len-limit-clause-count
returns-then-len-limit-clause-count c =
    let t = c.args.self.now in
    let offset = c.args.offset in
    let xs = drop offset (items t) in
    let i = c.loop-i.i in
    let long = length-drop offset (items t) in
    let h : i < length xs = omega (arith, long, length-items t, c.saturating_sub-count.ensures, c.num_keys.ensures.count, c.num_null_rows.ensures.count) in
    let inv = c.loop-i.invariant in
    let is = listed_turn xs i (get_or (items t) (offset + i) []) (map position c.loop-i.out.items) (map position c.push_item.new.out.items) h (sym (get_or-drop offset (items t) i [])) inv.so_far c.in_ok-push_item.ensures.ok in
    counted_at (λ x. x) c.args.limit xs i (length c.loop-i.out.items) (length c.push_item.new.out.items) h
    (length-seen position c.loop-i.out.items _ inv.so_far ∙ length-map (flat_map (λ x. x) (take i xs)) (λ x. Some x)) inv.few
    (length-seen position c.push_item.new.out.items _ is ∙ length-map (flat_map (λ x. x) (take (i + 1) xs)) (λ x. Some x)) (omega arith)

pub returns-then-len-limit-clause-ok : goal.returns-then-len-limit-clause-ok
returns-then-len-limit-clause-ok c =
    let t = c.args.self.now in
    let offset = c.args.offset in
    let xs = drop offset (items t) in
    let i = c.loop-i.i in
    let long = length-drop offset (items t) in
    let h : i < length xs = omega (arith, long, length-items t, c.saturating_sub-count.ensures, c.num_keys.ensures.count, c.num_null_rows.ensures.count) in
    let inv = c.loop-i.invariant in
    let is = listed_turn xs i (get_or (items t) (offset + i) []) (map position c.loop-i.out.items) (map position c.push_item.new.out.items) h (sym (get_or-drop offset (items t) i [])) inv.so_far c.in_ok-push_item.ensures.ok in
    is

pub returns-clause-count : goal.returns-clause-count
returns-clause-count c =
    let t = c.args.self.now in
    let xs = drop c.args.offset (items t) in
    let inv = c.loop-i.invariant in
    let e : c.saturating_sub-count.result ≡ c.loop-i.i = omega arith in
    let long = length-drop c.args.offset (items t) in
    rw e (counted_all (λ x. x) c.args.limit xs c.loop-i.i (length c.loop-i.out.items) (omega (arith, long, length-items t, c.saturating_sub-count.ensures, c.num_keys.ensures.count, c.num_null_rows.ensures.count))
    (length-seen position c.loop-i.out.items _ inv.so_far ∙ length-map (flat_map (λ x. x) (take c.loop-i.i xs)) (λ x. Some x)) inv.few)

pub returns-clause-ok : goal.returns-clause-ok
returns-clause-ok c =
    let e : c.saturating_sub-count.result ≡ c.loop-i.i = omega arith in
    rw e c.loop-i.invariant.so_far
