use Rattle.std.proofs.Common.{◌≡◌, ◌-◌, ◌+◌, ◌++◌, min, List, length, take, drop, ap, sym, ◌∙◌, append_assoc, rules}
use Rattle.col_core.specs.declared.leaf.Leaf.{Leaf}
use Rattle.col_core.specs.Tables.{chunk_leaves, leaves_of}
use Rattle.col_core.proofs.Leaves.{joined_more}
use Rattle.col_core.proofs.series.Series.joined_chunk.Goals as goal

pub loop-chunk-preserved : goal.loop-chunk-preserved
loop-chunk-preserved c =
    let all = c.chunks-chunk-items.result.now in
    let i = c.loop-chunk.chunk-index in
    let chunk = c.chunk-item.result in
    let skipped = c.min-skipped.result in
    let count = c.min-count.result in
    let skips : skipped ≡ min c.loop-chunk.skip (length (chunk_leaves chunk)) = search rules in
    let counts : count ≡ min c.loop-chunk.rest (length (chunk_leaves chunk) - skipped) = search rules in
    let before = chunk_leaves c.loop-chunk.joined in
    let here = take count (drop skipped (chunk_leaves chunk)) in
    let after = take (c.loop-chunk.rest - count) (drop (c.loop-chunk.skip - skipped) (leaves_of (drop (i + 1) all))) in
    record {
      kind = c.loop-chunk.invariant.kind ∙ sym c.extend_from_range.ensures.kind;
      so_far = ap (λ (xs : List Leaf). xs ++ after) c.in_ok-extend_from_range.ensures.ok ∙ append_assoc before here after
          ∙ ap (λ (xs : List Leaf). before ++ xs) (sym (joined_more all i chunk c.loop-chunk.skip c.loop-chunk.rest skipped count c.loop-chunk-test.true c.chunk-item.is skips counts)) ∙ c.loop-chunk.invariant.so_far;
    }
