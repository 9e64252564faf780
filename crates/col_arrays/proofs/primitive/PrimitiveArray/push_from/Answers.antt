use Rattle.std.proofs.Common.{Some, ap, sym, ◌∙◌}
use Rattle.std.proofs.lemmas.Option.{slice_get-get_or}
use Rattle.col_arrays.proofs.Items.{pushed_from, place_within}
use Rattle.col_arrays.proofs.primitive.PrimitiveArray.push_from.Goals as goal

pub returns-clause-ok : goal.returns-clause-ok
returns-clause-ok g c =
    let within = place_within c.source.inside.stored.items c.source.inside.validity c.args.source.now c.args.i c.source.invariant.0 c.source.view_is c.requires in
    pushed_from c.push.result c.source.inside.stored.items c.source.inside.validity c.args.source.now c.args.self.now c.push.new.self c.args.i c.index.result.now c.get.result c.source.invariant.0 c.source.view_is (slice_get-get_or c.source.inside.stored.items c.args.i c.index.result.now within ∙ ap Some (sym c.index.ensures)) c.get.ensures c.push.ensures.ok
