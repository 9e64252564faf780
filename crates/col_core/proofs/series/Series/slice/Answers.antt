use Rattle.std.proofs.Common.{◌≡◌, sym, subst, ◌∙◌}
use Rattle.std.specs.List.{All, range_with_len}
use Rattle.std.proofs.lemmas.Result.{IfOk-weaker}
use Rattle.col_core.specs.declared.leaf.Leaf.TheVariants as leaves
use Rattle.col_core.specs.Tables.{chunk_leaves, values_at}
use Rattle.col_core.specs.Values.{Fits}
use Rattle.col_core.proofs.Rows.{in_range, range_within}
use Rattle.col_core.proofs.Leaves.{fits_taken}
use Rattle.col_core.proofs.series.Series.slice.Goals as goal

pub from_chunk-requires-clause-fits : goal.from_chunk-requires-clause-fits
from_chunk-requires-clause-fits c =
    let places = range_with_len c.args.start c.args.len in
    let same : chunk_leaves c.in_ok-chunk.chunk ≡ values_at c.args.self.now.values places = c.in_ok-chunk.ensures.values ∙ sym (in_range c.args.self.now.values leaves.Null c.args.start c.args.len c.requires.in_bounds) in
    subst (All (Fits c.dtype.result)) (sym same) (fits_taken c.dtype.result c.args.self.now.values places c.dtype.ensures.fits (range_within c.args.start c.args.len _ c.requires.in_bounds))

pub returns : goal.returns
returns c =
    let same : chunk_leaves c.in_ok-chunk.chunk ≡ values_at c.args.self.now.values (range_with_len c.args.start c.args.len) = c.in_ok-chunk.ensures.values ∙ sym (in_range c.args.self.now.values leaves.Null c.args.start c.args.len c.requires.in_bounds) in
    IfOk-weaker c.from_chunk.result _ _ (λ s is. cc (is, same, c.in_ok-name.ensures, c.name.ensures, c.as_str.ensures, c.dtype.ensures.dtype)) c.from_chunk.ensures
