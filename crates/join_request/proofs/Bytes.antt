-- The value of bytes that are text, and of bytes that are none.
use Rattle.std.proofs.Common.{◌≡◌, ℕ, List, Bool, true, false, cond, None, refl}
use Rattle.std.proofs.lemmas.Str.{IsUtf8-from_is_utf8, is_utf8-from_IsUtf8}
use Rattle.std.specs.Str.{IsUtf8, is_utf8}
use Rattle.serde_json.specs.Read.{read}
use Rattle.join_request.specs.Json.{value_of}

pub value_of-text : (bytes : List ℕ) → IsUtf8 bytes → value_of bytes ≡ read bytes
value_of-text bytes text = let is : is_utf8 bytes ≡ true = is_utf8-from_IsUtf8 bytes text in rw is refl

none_at : (bytes : List ℕ) (b : Bool) → is_utf8 bytes ≡ b → (IsUtf8 bytes → read bytes ≡ None) → cond b (read bytes) None ≡ None
none_at bytes true is none = none (IsUtf8-from_is_utf8 bytes is)
none_at bytes false is none = refl

pub value_of-none : (bytes : List ℕ) → (IsUtf8 bytes → read bytes ≡ None) → value_of bytes ≡ None
value_of-none bytes none = none_at bytes (is_utf8 bytes) refl none
