use Rattle.std.proofs.Common.{ℕ, List, ◌||◌, sym, subst}
use Rattle.std.specs.List.{All}
use Rattle.join_laws.specs.Partitions.{unmarked}
use Rattle.join_probes.specs.Probed.{IsPair, is_joined}
use Rattle.join_probes_tests.proofs.told.told_of.Goals as goal

pub unmatched_rows-requires-clause-built : goal.unmatched_rows-requires-clause-built
unmatched_rows-requires-clause-built g c =
    let build = c.args.build.now in
    (build, (λ (k : List ℕ). unmarked k || is_joined c.args.query.now c.args.morsel.now.rows k), c.in-Ok.ensures.marked build unmarked c.in_ok-built.ensures.built, c.requires.few)

pub join_rows-requires-clause-pairs : goal.join_rows-requires-clause-pairs
join_rows-requires-clause-pairs g c =
    let build = c.args.build.now in
    subst (All (IsPair c.args.morsel.now build)) (sym c.as_slice-in-Ok-2.ensures) (c.in-Ok.ensures.inside build unmarked c.in_ok-built.ensures.built)
