use Rattle.std.proofs.Common.{◌≡◌, ◌++◌, ◌∷◌, [], List, map, sym, subst, ap, ◌∙◌, arith}
use Rattle.std.specs.List.{All}
use Rattle.col_core.specs.declared.chunk.Chunk.{Chunk}
use Rattle.col_core.specs.declared.leaf.Leaf.TheVariants as leaves
use Rattle.col_core.specs.declared.data_type.PhysicalType.{PhysicalType}
use Rattle.col_core.specs.Physical.{physical_of, IsKept}
use Rattle.col_core.specs.Tables.{Column, AreChunksOf, chunk_leaves, leaves_of}
use Rattle.col_core.proofs.Leaves.{one_chunk, leaves_of_one}
use Rattle.reduce_states.specs.States.{out}
use Rattle.reduce_sum.specs.Sums.{is_whole}
use Rattle.reduce_sum.proofs.Kept.{kept_wraps, sum_leaf-kept, all_whole_fit}
use Rattle.reduce_sum.proofs.Totals.{outs}
use Rattle.reduce_sum.proofs.sums.SumReduceGroupedReduction.finalize.Goals as goal

pub from_chunks-requires : goal.from_chunks-requires
from_chunks-requires g c =
    let chunk = c.into_chunk-chunk.result in
    let t = c.sum_type.result in
    let whole : physical_of t ≡ g.T.SumType.kept = ap physical_of c.sum_type.ensures ∙ c.args.self.now.kept in
    let kept : All (IsKept g.T.SumType.kept) (chunk_leaves chunk) = subst (λ (k : PhysicalType). All (IsKept k) (chunk_leaves chunk)) c.into_chunk-chunk.ensures.kind c.len-count.ensures.kept in
    let only : c.push_reserved.new.self.items ≡ chunk ∷ [] = c.push_reserved.ensures.items ∙ ap (λ (cs : List Chunk). cs ++ chunk ∷ []) c.in_ok-chunks.ensures.items in
    subst (AreChunksOf t) (sym only) (one_chunk t chunk (whole ∙ sym c.into_chunk-chunk.ensures.kind) (all_whole_fit t g.T.SumType.kept (chunk_leaves chunk) whole g.met.T.SumType.whole_law kept) (omega (arith, c.len-count.ensures.len, c.len-count.type_inv)))

pub returns-clause-ok : goal.returns-clause-ok
returns-clause-ok g c = λ xs h.
    let chunk = c.into_chunk-chunk.result in
    let t = c.args.self.now.in_dtype in
    let value = g.T.Number.value in
    let totals = c.args.self.now.totals.items in
    let wraps = kept_wraps t g.T.SumType.kept g.T.Number.wrap c.args.self.now.sums c.args.self.now.kept g.met.T.SumType.whole_law g.met.T.SumType.wrap_as_law in
    let only : c.push_reserved.new.self.items ≡ chunk ∷ [] = c.push_reserved.ensures.items ∙ ap (λ (cs : List Chunk). cs ++ chunk ∷ []) c.in_ok-chunks.ensures.items in
    let values : chunk_leaves chunk ≡ map (λ x. leaves.Whole (value x)) totals = c.into_chunk-chunk.ensures.values ∙ ap (λ v. map (λ x. leaves.Whole (value x)) v.items) c.replace-totals.ensures.value in
    let kept : All (IsKept g.T.SumType.kept) (chunk_leaves chunk) = subst (λ (k : PhysicalType). All (IsKept k) (chunk_leaves chunk)) c.into_chunk-chunk.ensures.kind c.len-count.ensures.kept in
    ap (λ (s : Column). s.values) c.from_chunks.ensures ∙ ap leaves_of only ∙ leaves_of_one chunk ∙ values
    ∙ outs value g.T.Number.wrap (IsKept g.T.SumType.kept) t totals wraps (λ z. sum_leaf-kept t z (ap is_whole c.args.self.now.kept ∙ g.met.T.SumType.whole_law))
    (λ z k. g.met.T.Integral.wrap_law z ((g.met.T.SumType.kept_law z).1 k)) (subst (All (IsKept g.T.SumType.kept)) values kept)
    ∙ sym (ap (map out) h)
