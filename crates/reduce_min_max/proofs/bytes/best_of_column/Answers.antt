use Rattle.std.proofs.Common.{ap, sym, ◌∙◌, option_copied, fold, arith}
use Rattle.std.proofs.lemmas.List.{take_all}
use Rattle.col_core.specs.Tables.{leaves_of}
use Rattle.col_core.specs.Values.{is_text}
use Rattle.reduce_model.specs.Folds.{fold_of, better}
use Rattle.kept_values.specs.Kept.{bytes_or_null}
use Rattle.reduce_min_max.specs.Best.{order_of}
use Rattle.reduce_min_max.proofs.Scanned.{chunk_more, best_text}
use Rattle.reduce_min_max.proofs.bytes.best_of_column.Goals as goal

pub loop-chunk-preserved : goal.loop-chunk-preserved
loop-chunk-preserved g c = λ t.
    let k = g.S.Side.kind in
    let before = bytes_or_null (option_copied c.loop-chunk.best) in
    chunk_more k t c.chunks-chunk-items.result.now c.loop-chunk.chunk-index c.chunk-item.result before (bytes_or_null (option_copied c.best_of_array-best.result)) g.met.S.Side.kind_law
    c.loop-chunk-test.true c.chunk-item.is (c.loop-chunk.invariant t) (c.best_of_array-best.ensures ∙ ap (fold (better (order_of k)) before) (sym c.byte_array.ensures))

pub returns-clause-text : goal.returns-clause-text
returns-clause-text g c =
    let k = g.S.Side.kind in
    let t = c.args.ca.now.dtype in
    let cs = c.chunks-chunk-items.result.now in
    let all = ap leaves_of (take_all c.loop-chunk.chunk-index cs (omega arith)) in
    ap (is_text t) (c.loop-chunk.invariant t ∙ ap (fold_of k t) all) ∙ best_text k t (leaves_of cs) g.met.S.Side.kind_law c.chunks-chunk-items.ensures.fit.fits
