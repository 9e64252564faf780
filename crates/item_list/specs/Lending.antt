-- What a write through a lent item leaves.
use Rattle.std.specs.Prelude.{ℕ, List, slice_set}
use Rattle.std.specs.Borrow.{Lends, MutBor, Fml, RattleType}
use Rattle.item_list.specs.contracts.List.{the_row}

-- the list ends with item i set to the last value that was written through r
abbrev pub LendsItem : (T : RattleType) → MutBor (List T.Denot) → ℕ → MutBor T.Denot → Fml
LendsItem T l i r = Lends (the_row T) T l r (slice_set l.now i)
