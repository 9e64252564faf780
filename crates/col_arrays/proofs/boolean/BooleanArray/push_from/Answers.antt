use Rattle.std.proofs.Common.{Some, false, ap, sym, ◌∙◌}
use Rattle.std.proofs.lemmas.Option.{slice_get-get_or}
use Rattle.col_arrays.proofs.Items.{pushed_from, place_within}
use Rattle.col_arrays.proofs.boolean.BooleanArray.push_from.Goals as goal

pub returns-clause-ok : goal.returns-clause-ok
returns-clause-ok c =
    let within = place_within c.source.inside.stored c.source.inside.validity c.args.source.now c.args.i c.source.invariant c.source.view_is c.requires in
    pushed_from c.push.result c.source.inside.stored c.source.inside.validity c.args.source.now c.args.self.now c.push.new.self c.args.i c.get.result c.get-2.result c.source.invariant c.source.view_is (slice_get-get_or c.source.inside.stored c.args.i false within ∙ ap Some (sym c.get.ensures)) c.get-2.ensures c.push.ensures.ok
