use Rattle.std.proofs.Common.{List, [], ◌∷◌, ◌++◌, map, sym, subst, arith}
use Rattle.std.specs.List.{All}
use Rattle.std.proofs.lemmas.Result.{err_from_is_err_and, IfErr-at_err, IfOk-at_ok}
use Rattle.col_core.specs.Tables.{Row}
use Rattle.join_laws.specs.declared.Pair.{Pair}
use Rattle.join_laws.specs.Locals.{rows_of_morsels}
use Rattle.join_probes.specs.Probed.{is_joined, pair_row, HasProbed, IsPair}
use Rattle.join_probes.proofs.Probes.{probed_more}
use Rattle.join_engine.specs.Listed.{rows_of_each, IsListing, IsQueryErrorOf}
use Rattle.join_engine.proofs.Listed.{morsel_fails, morsel_listed}
use Rattle.join_engine.proofs.MorselRows.{rows_more}
use Rattle.join_engine.proofs.Mapped.{mapped_err, mapped_ok, went_well}
use Rattle.join_engine.proofs.probe.take_morsel.Goals as goal

-- too many pairs of the morsel are too many in all
pub returns-in_err-pairs-clause-fails : goal.returns-in_err-pairs-clause-fails
returns-in_err-pairs-clause-fails g c =
    let q = c.args.query.now in
    let build = c.args.build.now in
    let e = mapped_err IsQueryErrorOf c.map_err.result c.probe_morsel.result c.in_err-pairs.field-0.0 c.map_err.ensures.cases c.in_err-pairs.was in
    let fails = IfErr-at_err _ e.1 c.probe_morsel.ensures.fails in
    let p = err_from_is_err_and c.from_residual.result c.from_residual.ensures.1 in
    rw (p.1, p.2) (λ ms h. morsel_fails q build ms c.args.morsel.now.rows c.args.listing e.0 _ h.rows (fails build (is_joined q (rows_of_morsels ms)) h.tables.built) e.2)

pub take_pairs-requires-clause-pairs : goal.take_pairs-requires-clause-pairs
take_pairs-requires-clause-pairs g c =
    let ok = mapped_ok IsQueryErrorOf c.map_err.result c.probe_morsel.result c.in_ok-pairs.pairs c.map_err.ensures.cases c.in_ok-pairs.was in
    let h = c.requires.listed.1 in
    subst (All (IsPair c.args.morsel.now c.args.build.now)) (sym c.as_slice.ensures) (IfOk-at_ok _ ok c.probe_morsel.ensures.inside c.args.build.now _ h.tables.built)

pub returns-clause-listed : goal.returns-clause-listed
returns-clause-listed g c = λ ms h.
    let q = c.args.query.now in
    let build = c.args.build.now in
    let rows = c.args.morsel.now.rows in
    let probed = rows_of_morsels ms in
    let pairs = c.in_ok-pairs.pairs in
    let ok = mapped_ok IsQueryErrorOf c.map_err.result c.probe_morsel.result pairs c.map_err.ensures.cases c.in_ok-pairs.was in
    let are = IfOk-at_ok _ ok c.probe_morsel.ensures.rows build (is_joined q probed) h.tables.built in
    let marked = went_well c.probe_morsel.result pairs ok c.probe_morsel.ensures.marked build (is_joined q probed) h.tables.built in
    let spelled = went_well c.probe_morsel.result pairs ok c.probe_morsel.ensures.spelled in
    let after = c.in_ok-take_pairs.field-0 in
    record {
      tables = subst (λ (rs : List Row). HasProbed q build rs c.probe_morsel.new.built) (sym (rows_more ms rows)) (probed_more q build probed rows c.args.built.now c.probe_morsel.new.built h.tables spelled marked);
      rows = morsel_listed q build ms rows pairs (pair_row q c.args.morsel.now build) after are
          (subst (λ (ps : List Pair). IsListing q (rows_of_each q build ms ++ map (pair_row q c.args.morsel.now build) ps ∷ []) after) c.as_slice.ensures (c.in_ok-take_pairs.ensures.listed (rows_of_each q build ms) h.rows));
    }

pub returns-clause-cost : goal.returns-clause-cost
returns-clause-cost g c =
    let ok = mapped_ok IsQueryErrorOf c.map_err.result c.probe_morsel.result c.in_ok-pairs.pairs c.map_err.ensures.cases c.in_ok-pairs.was in
    omega (arith, went_well c.probe_morsel.result c.in_ok-pairs.pairs ok c.probe_morsel.ensures.cost, c.in_ok-take_pairs.ensures.cost)
