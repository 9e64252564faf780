-- What a write through a lent value leaves.
use Rattle.std.specs.Prelude.{ℕ, zero, suc, List, [], ◌∷◌}
use Rattle.std.specs.Borrow.{Lends, MutBor, Fml, RattleType}
use Rattle.byte_map.specs.Entries.{Entry, Map}
use Rattle.byte_map.specs.contracts.map.BytesIndexMap.{the_row}

-- the entries, with w as the value at i
abbrev pub with_value : {V : Type 0} → List (Entry V) → ℕ → V → List (Entry V)
with_value [] i w = []
with_value (e ∷ es) zero w = record e { value = w } ∷ es
with_value (e ∷ es) (suc i) w = e ∷ with_value es i w

-- the map ends with the last value that was written through r at i, and all else as it was
abbrev pub LendsValue : (V : RattleType) → MutBor (Map V.Denot) → ℕ → MutBor V.Denot → Fml
LendsValue V m i r = Lends (the_row V) V m r (λ w. record { entries = with_value m.now.entries i w })
