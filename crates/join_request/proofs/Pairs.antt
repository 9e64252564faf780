-- Lists and objects of another length are no pairs, no triples and no single members.
use Rattle.std.proofs.Common.{◌≡◌, ◌<◌, List, [], ◌∷◌, length, Some, None, slice_get, String, string_bytes, refl, arith}
use Rattle.std.specs.declared.alloc.Global.{Global}
use Rattle.serde_json.specs.View.{view, items_view, members_view}
use Rattle.serde_json.specs.declared.value.Value.{Value}
use Rattle.join_request.specs.Json.{two_items, three_items, one_member}

pub short_no_pair : (vs : List Value) → length vs < 2 → two_items (items_view vs) ≡ None
short_no_pair [] h = refl
short_no_pair (a ∷ []) h = refl
short_no_pair (a ∷ b ∷ vs) h = absurd (omega arith)

pub long_no_pair : (vs : List Value) → 2 < length vs → two_items (items_view vs) ≡ None
long_no_pair [] h = absurd (omega arith)
long_no_pair (a ∷ []) h = absurd (omega arith)
long_no_pair (a ∷ b ∷ []) h = absurd (omega arith)
long_no_pair (a ∷ b ∷ c ∷ vs) h = refl

pub ruleset no_pairs = (short_no_pair, long_no_pair)

pub short_no_triple : (vs : List Value) → length vs < 3 → three_items (items_view vs) ≡ None
short_no_triple [] h = refl
short_no_triple (a ∷ []) h = refl
short_no_triple (a ∷ b ∷ []) h = refl
short_no_triple (a ∷ b ∷ c ∷ vs) h = absurd (omega arith)

pub long_no_triple : (vs : List Value) → 3 < length vs → three_items (items_view vs) ≡ None
long_no_triple [] h = absurd (omega arith)
long_no_triple (a ∷ []) h = absurd (omega arith)
long_no_triple (a ∷ b ∷ []) h = absurd (omega arith)
long_no_triple (a ∷ b ∷ c ∷ []) h = absurd (omega arith)
long_no_triple (a ∷ b ∷ c ∷ d ∷ vs) h = refl

pub ruleset no_triples = (short_no_triple, long_no_triple)

abbrev Entries : Type 0
Entries = List (String Global × Value)

pub only_one : (ms : Entries) (s : String Global) (v : Value) → slice_get ms 0 ≡ Some (s, v) → length ms ≡ 1 → one_member (members_view ms) ≡ Some (string_bytes s, view v)
only_one [] s v e h = absurd (omega arith)
only_one (m ∷ []) s v e h = cc
only_one (m ∷ n ∷ ms) s v e h = absurd (omega arith)

pub other_number : (ms : Entries) → (length ms ≡ 1 → ⊥) → one_member (members_view ms) ≡ None
other_number [] h = refl
other_number (m ∷ []) h = absurd (h refl)
other_number (m ∷ n ∷ ms) h = refl

pub ruleset members = (only_one, other_number)
