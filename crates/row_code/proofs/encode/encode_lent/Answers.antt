use Rattle.std.proofs.Common.{◌≡◌, ℕ, length, rules, Bor}
use Rattle.std.specs.List.{All, flat_map}
use borrow.Author.Count.{below_more}
use Rattle.col_core.specs.declared.series.Series.{Series}
use Rattle.col_core.specs.Values.{value_at}
use Rattle.row_code.specs.Spelling.{spelling, IsValueOf}
use Rattle.row_code.proofs.Columns.{ended_more}
use Rattle.row_code.proofs.encode.encode_lent.Goals as goal

pub loop-i-preserved : goal.loop-i-preserved
loop-i-preserved c =
    let columns = c.args.columns.now in
    let i = c.loop-i.i in
    let row_bytes = λ (i : ℕ). flat_map (λ (s : Bor Series). spelling s.now.dtype (value_at s.now.values i)) columns in
    let P : ℕ → Type 0 = λ i. All (λ (s : Bor Series). IsValueOf s.now.dtype (value_at s.now.values i)) columns in
    let ends : c.len.result ≡ length c.push_row.new.out.items = search rules in
    let more = ended_more row_bytes i c.len.result c.loop-i.bytes.items c.loop-i.offsets.items c.push_row.new.out.items c.push-in-loop-i.new.self.items
    (record { offsets_are = c.loop-i.invariant.offsets; items_are = c.loop-i.invariant.items }) c.in_ok-push_row.ensures.ok c.in_ok-push-2.ensures.items ends in
    record {
      offsets = more.offsets_are;
      items = more.items_are;
      values = below_more P i c.loop-i.invariant.values c.in_ok-push_row.ensures.values;
    }
