use Rattle.std.proofs.Common.{◌≡◌, None, rules}
use Rattle.col_core.specs.Refusals.{frame_refusal}
use Rattle.col_core.proofs.Heights.{accepted}
use Rattle.col_core.proofs.frame.Frame.new.Goals as goal

pub from_columns-requires : goal.from_columns-requires
from_columns-requires c =
    let none : frame_refusal c.args.schema c.args.columns.items ≡ None = search rules in
    rw (c.height_of-height.ensures, c.deref-2.ensures.value) (accepted c.args.schema c.args.columns.items c.in_ok-columns.columns.items none c.in_ok-columns.ensures.headers c.in_ok-columns.ensures.values c.in_ok-columns.ensures.fits)
