use Rattle.std.proofs.Common.{◌≡◌, ◌<◌, ℕ, map}
use Rattle.std.specs.List.{All, flat_map, range_with_len}
use Rattle.col_arrays.specs.Buffer.{byte_items, AreOffsets}
use Rattle.col_core.specs.Values.{value_at}
use Rattle.row_code.specs.Spelling.{spelling, IsValueOf}
use Rattle.row_code.proofs.encode.encode_lent.Given as goal

abbrev pub invariant-loop-i : goal.invariant-loop-i
invariant-loop-i l = record {
  offsets : AreOffsets l.bytes.items l.offsets.items;
  items : byte_items l.bytes.items l.offsets.items ≡ map (λ i. flat_map (λ c. spelling c.now.dtype (value_at c.now.values i)) l.columns) (range_with_len 0 l.i);
  values : (i : ℕ) → i < l.i → All (λ c. IsValueOf c.now.dtype (value_at c.now.values i)) l.columns;
}
