-- The items of an array: what is stored, also under a null, and whether the item is present.
use Rattle.std.specs.Prelude.{ℕ, ℤ, Bool, true, not, cond, List, map, length, replicate, Option, Some, None}
use Rattle.std.specs.List.{All, zip, count_by}

-- an item as a value, or none for a null
abbrev pub item_of : {T : Type 0} → T × Bool → Option T
item_of (x, present) = cond present (Some x) None

-- what is stored, under nulls too
abbrev pub stored : {T : Type 0} → List (T × Bool) → List T
stored items = map (λ item. item.0) items

-- which items are present
abbrev pub presence : {T : Type 0} → List (T × Bool) → List Bool
presence items = map (λ item. item.1) items

-- items of which none is null
abbrev pub all_present : {T : Type 0} → List T → List (T × Bool)
all_present xs = map (λ x. (x, true)) xs

-- values of a type that has these whole numbers
abbrev pub AreNumbers : {T : Type 0} → (T → ℤ) → (ℤ → Type 0) → List T → Type 0
AreNumbers value fits xs = All (λ x. fits (value x)) xs

-- how many items are null
abbrev pub nulls : {T : Type 0} → List (T × Bool) → ℕ
nulls items = count_by not (presence items)

-- which of n items are present: all of them where no validity is given
abbrev pub validity_of : ℕ → Option (List Bool) → List Bool
validity_of n None = replicate n true
validity_of n (Some validity) = validity

-- the same stored values under another validity
abbrev pub with_validity : {T : Type 0} → List (T × Bool) → Option (List Bool) → List (T × Bool)
with_validity items validity = zip (stored items) (validity_of (length items) validity)
