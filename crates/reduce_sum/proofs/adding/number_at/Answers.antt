use Rattle.std.proofs.Common.{sym, ap, subst, ◌∙◌}
use Rattle.std.specs.Int.{w128}
use Rattle.std.proofs.lemmas.Int.{to_z-of_z}
use Rattle.reduce_sum.proofs.Totals.{number_found, number_missing}
use Rattle.reduce_sum.proofs.adding.number_at.Goals as goal

pub from_whole-requires : goal.from_whole-requires
from_whole-requires g c =
    let found = number_found g.S.Number.value g.T.Number.fits c.args.numbers.now c.args.i c.in-Some.number c.to_whole.result (sym c.get.ensures ∙ c.in-Some.is) c.to_whole.ensures.value c.requires.place c.requires.fit in
    subst g.T.Number.fits (sym (to_z-of_z w128 c.to_whole.result (record { sfits = c.to_whole.type_inv }))) found.0

pub returns-in-Some : goal.returns-in-Some
returns-in-Some g c =
    let found = number_found g.S.Number.value g.T.Number.fits c.args.numbers.now c.args.i c.in-Some.number c.to_whole.result (sym c.get.ensures ∙ c.in-Some.is) c.to_whole.ensures.value c.requires.place c.requires.fit in
    c.from_whole.ensures ∙ to_z-of_z w128 c.to_whole.result (record { sfits = c.to_whole.type_inv }) ∙ found.1

pub returns-in-None : goal.returns-in-None
returns-in-None g c =
    ap g.T.Number.value c.zero.ensures ∙ g.met.T.Zero.zero_law g.met.T.Integral.exact_law
    ∙ number_missing g.S.Number.value c.args.numbers.now c.args.i (sym c.get.ensures ∙ c.in-None.is)
