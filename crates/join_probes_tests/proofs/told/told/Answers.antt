use Rattle.std.proofs.Common.{rules, ◌≡◌, ◌<◌, ◌==◌, ℕ, Bool, false, List, length, get_or, sym, ap, ◌∙◌, arith}
use Rattle.col_core.specs.Tables.{Table}
use Rattle.join_model.specs.Refusals.{is_too_large}
use Rattle.join_probes.specs.Keys.{AllHave}
use Rattle.join_probes.proofs.BuildFrames.{frame_schema}
use Rattle.join_probes.proofs.Checked.{probe_few, probe_have}
use Rattle.join_probes.proofs.Plans.{few_frame}
use Rattle.join_probes_tests.proofs.told.told.Goals as goal

some_items : (empty : Bool) (n : ℕ) → empty ≡ (n == 0) → empty ≡ false → 0 < n
some_items empty n e h = grind arith

pub told_of-requires-clause-same : goal.told_of-requires-clause-same
told_of-requires-clause-same c =
    let schema = c.args.query.now.probe_schema in
    let probe = c.deref-2.result.now in
    let morsel = c.index.result.now in
    let have : AllHave schema probe = search (rules, probe_have) in
    let same : c.in_ok-probe.probe.items ≡ probe = sym c.deref-2.ensures.value in
    let some : 0 < length c.in_ok-probe.probe.items = omega (arith, some_items c.is_empty.result c.in_ok-probe.probe.len c.is_empty.ensures c.if-is_empty.false) in
    frame_schema schema probe 0 morsel have (c.index.ensures ∙ ap (λ (frames : List Table). get_or frames 0 morsel) same) (rw (sym same) some)

pub told_of-requires-clause-few_rows : goal.told_of-requires-clause-few_rows
told_of-requires-clause-few_rows c =
    let probe = c.deref-2.result.now in
    let morsel = c.index.result.now in
    let few : is_too_large probe ≡ false = search (rules, probe_few) in
    let same : c.in_ok-probe.probe.items ≡ probe = sym c.deref-2.ensures.value in
    let some : 0 < length c.in_ok-probe.probe.items = omega (arith, some_items c.is_empty.result c.in_ok-probe.probe.len c.is_empty.ensures c.if-is_empty.false) in
    few_frame probe 0 morsel (c.index.ensures ∙ ap (λ (frames : List Table). get_or frames 0 morsel) same) (rw (sym same) some) few
