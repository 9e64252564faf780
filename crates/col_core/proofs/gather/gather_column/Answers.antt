use Rattle.std.proofs.Common.{◌≡◌, ◌∙◌, List, map, ap, Bor}
use Rattle.std.specs.List.{All}
use Rattle.std.proofs.lemmas.Result.{IfOk-weaker}
use Rattle.std.proofs.lemmas.List.Elements.{All-map}
use Rattle.col_core.specs.declared.leaf.Leaf.{Leaf}
use Rattle.col_core.specs.declared.series.Series.{Series}
use Rattle.col_core.specs.Tables.{chunk_leaves}
use Rattle.col_core.specs.Values.{Fits}
use Rattle.col_core.specs.Places.{picked}
use Rattle.col_core.proofs.Places.{gathered_are, gathered_fits}
use Rattle.col_core.proofs.gather.gather_column.Goals as goal

pub from_chunk-requires-clause-fits : goal.from_chunk-requires-clause-fits
from_chunk-requires-clause-fits c =
    let values_of = λ (s : Bor Series). s.now.values in
    let lists = map values_of c.in_ok-sources.sources.items in
    let picked_are : chunk_leaves c.in_ok-chunk.chunk ≡ map (picked lists) c.args.places.now = c.in_ok-chunk.ensures.values ∙ ap (λ (xs : List (Bor Series)). map (picked (map values_of xs)) c.args.places.now) c.deref.ensures.value in
    let fits = All-map (λ (vs : List Leaf). All (Fits c.args.dtype) vs) values_of c.in_ok-sources.sources.items c.in_ok-sources.ensures.fits in
    gathered_fits c.args.dtype c.args.frames.now c.args.column c.args.places.now lists (chunk_leaves c.in_ok-chunk.chunk) c.requires.in_bounds c.in_ok-sources.ensures.values picked_are fits

pub returns : goal.returns
returns c =
    let values_of = λ (s : Bor Series). s.now.values in
    let lists = map values_of c.in_ok-sources.sources.items in
    let picked_are : chunk_leaves c.in_ok-chunk.chunk ≡ map (picked lists) c.args.places.now = c.in_ok-chunk.ensures.values ∙ ap (λ (xs : List (Bor Series)). map (picked (map values_of xs)) c.args.places.now) c.deref.ensures.value in
    let are = gathered_are c.args.frames.now c.args.column c.args.places.now lists (chunk_leaves c.in_ok-chunk.chunk) c.requires.in_bounds c.in_ok-sources.ensures.values picked_are in
    IfOk-weaker c.from_chunk.result _ _ (λ s is. is ∙ ap (λ (vs : List Leaf). record { name = c.args.name; dtype = c.args.dtype; values = vs }) are) c.from_chunk.ensures
