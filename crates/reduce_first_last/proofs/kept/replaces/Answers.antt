use Rattle.std.proofs.Common.{ap, sym, ◌∙◌, Bool, if◌then◌else◌}
use Rattle.reduce_first_last.specs.Numbers.{numbered_state}
use Rattle.reduce_first_last.proofs.Numbering.{chosen}
use Rattle.reduce_first_last.proofs.kept.replaces.Goals as goal

pub returns : goal.returns
returns g c = λ t v w.
    chosen g.P.Policy.kind t c.args.old c.args.new v w g.met.P.Policy.kind_law c.ranges.old.fits c.ranges.new.fits
    ∙ ap (λ (b : Bool). if b then numbered_state c.args.new w else numbered_state c.args.old v) (sym c.should_replace.ensures)
