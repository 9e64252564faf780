use Rattle.std.proofs.Common.{◌≡◌, ap, sym, ◌∙◌, arith}
use Rattle.std.proofs.lemmas.List.{take_all}
use Rattle.col_core.specs.Tables.{leaves_of, chunk_leaves}
use Rattle.reduce_model.specs.Folds.{fold_of}
use Rattle.kept_values.specs.Kept.{number_or_null}
use Rattle.reduce_min_max.proofs.Columns.{next_both, next_first, next_missing}
use Rattle.reduce_min_max.proofs.numeric.NumericReduction.reduce_ca.Goals as goal
use Rattle.reduce_min_max.proofs.numeric.NumericReduction.reduce_ca.Goals.{in-Some-Some, in_default-None, in-None-default}

pub loop-chunk-preserved : goal.loop-chunk-preserved
loop-chunk-preserved g c = λ t.
    let k = g.Self.NumericReduction.kind in
    let value = g.Self.Elem.Number.value in
    let cs = c.chunks-chunk-items.result.now in
    let i = c.loop-chunk.chunk-index in
    let skips = g.met.Self.NumericReduction.kind_law in
    let now = c.loop-chunk.invariant t in
    let next : number_or_null value c.reduce_array.result ≡ fold_of k t (chunk_leaves c.chunk-item.result) = c.reduce_array.ensures t ∙ ap (fold_of k t) (sym c.array_of-items.ensures) in
    let best = c.loop-chunk.best in
    let found = c.reduce_array.result in
    let chunk = c.chunk-item.result in
    elim c.match-best.branch [
      | in-Some-Some w ↦ ap (number_or_null value) w.best-is ∙ next_both k t value cs i chunk best found skips c.loop-chunk-test.true c.chunk-item.is now next w.in-Some-Some.a w.in-Some-Some.b w.combine.result w.in-Some-Some.is-0 w.in-Some-Some.is-1 w.combine.ensures
      | in_default-None w ↦ ap (number_or_null value) w.best-is ∙ next_missing k t value cs i chunk best found skips c.loop-chunk-test.true c.chunk-item.is now next w.in_default-None.is-1
      | in-None-default w ↦ ap (number_or_null value) w.best-is ∙ next_first k t value cs i chunk best found skips c.loop-chunk-test.true c.chunk-item.is now next w.in-None-default.is-0
    ]

pub returns : goal.returns
returns g c = λ t.
    let cs = c.chunks-chunk-items.result.now in
    let i = c.loop-chunk.chunk-index in
    c.loop-chunk.invariant t ∙ ap (fold_of g.Self.NumericReduction.kind t) (ap leaves_of (take_all i cs (omega arith)) ∙ c.chunks-chunk-items.ensures.values)
