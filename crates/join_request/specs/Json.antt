-- The JSON value that bytes spell, and how a reader looks into it.
use Rattle.std.specs.Prelude.{ℕ, List, [], ◌∷◌, Bool, true, ◌&&◌, if◌then◌else◌, bytes_eq, Option, Some, None, option_map, option_and_then}
use Rattle.std.specs.Str.{is_utf8}
use Rattle.std.specs.List.{list_any}
use Rattle.serde_json.specs.Data.{Data, object, Items, no_items, item, Members, no_members, member}
use Rattle.serde_json.specs.Read.{read}
use Rattle.serde_json.specs.Find.{as_array}

-- the JSON value of at most 127 levels that the bytes spell; they are UTF-8
abbrev pub value_of : List ℕ → Option Data
value_of bytes = if is_utf8 bytes then read bytes else None

-- what the first step gives, handed to the next one
infixl 10 ◌>>=◌
abbrev pub ◌>>=◌ : {A B : Type 0} → Option A → (A → Option B) → Option B
found >>= next = option_and_then next found

-- a member's name is one of these
abbrev pub is_one_of : List (List ℕ) → List ℕ → Bool
is_one_of names name = list_any (bytes_eq name) names

-- each member has one of these names
abbrev pub only_named : List (List ℕ) → Members → Bool
only_named names no_members = true
only_named names (member name d ms) = is_one_of names name && only_named names ms

-- the value, where it is an object all of whose members have one of these names
abbrev pub object_of : List (List ℕ) → Data → Option Data
object_of names (object ms) = if only_named names ms then Some (object ms) else None
object_of names d = None

-- what f reads of a member, or the default where the member is missing
abbrev pub or_default : {A : Type 0} → A → (Data → Option A) → Option Data → Option A
or_default default f None = Some default
or_default default f (Some d) = f d

-- the name and the value of the one member of an object
abbrev pub one_member : Members → Option (List ℕ × Data)
one_member (member name d no_members) = Some (name, d)
one_member ms = None

abbrev pub only_member : Data → Option (List ℕ × Data)
only_member (object ms) = one_member ms
only_member d = None

-- what f reads of each item, where it reads something of each
abbrev pub each : {A : Type 0} → (Data → Option A) → Items → Option (List A)
each f no_items = Some []
each f (item d ds) = option_and_then (λ x. option_map (λ xs. x ∷ xs) (each f ds)) (f d)

-- a list, each of whose items f reads
abbrev pub list_of : {A : Type 0} → (Data → Option A) → Data → Option (List A)
list_of f d = option_and_then (each f) (as_array d)

-- a list of two
abbrev pub two_items : Items → Option (Data × Data)
two_items (item a (item b no_items)) = Some (a, b)
two_items ds = None

abbrev pub pair_of : Data → Option (Data × Data)
pair_of d = option_and_then two_items (as_array d)

-- a list of three
abbrev pub three_items : Items → Option (Data × Data × Data)
three_items (item a (item b (item c no_items))) = Some (a, b, c)
three_items ds = None

abbrev pub triple_of : Data → Option (Data × Data × Data)
triple_of d = option_and_then three_items (as_array d)

-- what a text names in a table of names
abbrev pub named : {A : Type 0} → List (List ℕ × A) → List ℕ → Option A
named [] text = None
named (entry ∷ rest) text = if bytes_eq text entry.0 then Some entry.1 else named rest text
