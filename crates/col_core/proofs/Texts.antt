-- Texts among values.
use Rattle.std.proofs.Common.{◌≡◌, ℕ, zero, suc, ◌+◌, ◌<◌, ℤ, pos, Bool, true, false, not, ◌||◌, List, [], ◌∷◌, map, length, take, get_or, option_and_then, slice_get, refl, ap, ◌∙◌, arith}
use Rattle.std.specs.List.{list_any}
use Rattle.std.specs.Str.{IsUtf8, is_utf8}
use Rattle.std.proofs.lemmas.List.{length-map}
use Rattle.std.proofs.lemmas.List.Folds.{list_any_more, list_any_at}
use Rattle.std.proofs.lemmas.Str.{IsUtf8-from_is_utf8, is_utf8-from_IsUtf8}
use Rattle.col_arrays.specs.Items.{item_of}
use Rattle.col_core.specs.declared.leaf.Leaf.{Leaf}
use Rattle.col_core.specs.declared.leaf.Leaf.TheVariants as leaves
use Rattle.col_core.specs.declared.data_type.DataType.{DataType}
use Rattle.col_core.specs.declared.data_type.DataType.TheVariants.{String}
use Rattle.col_core.specs.declared.chunk.Chunk.{Chunk}
use Rattle.col_core.specs.declared.chunk.Chunk.TheVariants as chunks
use Rattle.col_core.specs.Schemas.{dtype_eq}
use Rattle.col_core.specs.Tables.{chunk_leaves}
use Rattle.col_core.specs.Values.{is_text, is_bad_text, item_leaf, number_leaf}
use Rattle.col_core.proofs.Equalities.{dtype_eq-Decides}

pub not_utf8 : (b : List ℕ) → (IsUtf8 b → ⊥) → is_utf8 b ≡ false
not_utf8 b h = by_cases (is_utf8 b) refl
  where
    by_cases : (r : Bool) → is_utf8 b ≡ r → is_utf8 b ≡ false
    by_cases true e = absurd (h (IsUtf8-from_is_utf8 b e))
    by_cases false e = e

abbrev bytes_leaf : List ℕ × Bool → Leaf
bytes_leaf item = item_leaf (λ b. leaves.Bytes b) item

bad_at : (items : List (List ℕ × Bool)) (i : ℕ) → i < length items → not (is_text String (get_or (map bytes_leaf items) i leaves.Null)) ≡ is_bad_text (option_and_then item_of (slice_get items i))
bad_at [] i h = absurd (omega arith)
bad_at ((b, true) ∷ items) zero h = refl
bad_at ((b, false) ∷ items) zero h = refl
bad_at (x ∷ items) (suc i) h = bad_at items i (omega arith)

pub bad_text_more : (items : List (List ℕ × Bool)) (i : ℕ) → i < length items
    → list_any (λ v. not (is_text String v)) (take (i + 1) (map (item_leaf (λ b. leaves.Bytes b)) items)) ≡ (list_any (λ v. not (is_text String v)) (take i (map (item_leaf (λ b. leaves.Bytes b)) items)) || is_bad_text (option_and_then item_of (slice_get items i)))
bad_text_more items i h =
    list_any_more (λ v. not (is_text String v)) (map bytes_leaf items) i leaves.Null (rw (length-map items bytes_leaf) h)
    ∙ ap (λ b. list_any (λ v. not (is_text String v)) (take i (map bytes_leaf items)) || b) (bad_at items i h)

pub bad_text_found : (items : List (List ℕ × Bool)) (i : ℕ) → i < length items → is_bad_text (option_and_then item_of (slice_get items i)) ≡ true
    → list_any (λ v. not (is_text String v)) (map (item_leaf (λ b. leaves.Bytes b)) items) ≡ true
bad_text_found items i h e = list_any_at (λ v. not (is_text String v)) (map bytes_leaf items) i leaves.Null (rw (length-map items bytes_leaf) h) (bad_at items i h ∙ e)

pub ruleset texts = (not_utf8, is_utf8-from_IsUtf8, bad_text_more, bad_text_found)

-- values of other kinds are no texts, and no type but String asks for one
no_bad_items : {T : Type 0} (t : DataType) (leaf : T → Leaf) → ((x : T) → is_text t (leaf x) ≡ true) → (items : List (T × Bool)) → list_any (λ v. not (is_text t v)) (map (item_leaf leaf) items) ≡ false
no_bad_items t leaf h [] = refl
no_bad_items t leaf h ((x, true) ∷ items) = rw (h x) (no_bad_items t leaf h items)
no_bad_items t leaf h ((x, false) ∷ items) = no_bad_items t leaf h items

pub no_bad_truths : (t : DataType) (items : List (Bool × Bool)) → list_any (λ v. not (is_text t v)) (map (item_leaf (λ b. leaves.Bool b)) items) ≡ false
no_bad_truths t items = no_bad_items t (λ b. leaves.Bool b) (λ b. refl) items

pub no_bad_numbers : {T : Type 0} (t : DataType) (whole : T → ℤ) (items : List (T × Bool)) → list_any (λ v. not (is_text t v)) (map (number_leaf whole) items) ≡ false
no_bad_numbers t whole items = no_bad_items t (λ x. leaves.Whole (whole x)) (λ x. refl) items

pub no_bad_bytes : (t : DataType) (items : List (List ℕ × Bool)) → dtype_eq t String ≡ false → list_any (λ v. not (is_text t v)) (map (item_leaf (λ b. leaves.Bytes b)) items) ≡ false
no_bad_bytes t items h = no_bad_items t (λ b. leaves.Bytes b) (λ b. rw h refl) items

pub no_bad_text : (t : DataType) (c : Chunk) → ((items : List (List ℕ × Bool)) → c ≡ chunks.Bytes items → ⊥) → list_any (λ v. not (is_text t v)) (chunk_leaves c) ≡ false
no_bad_text t (chunks.Boolean items) h = no_bad_truths t items
no_bad_text t (chunks.I8 items) h = no_bad_numbers t (λ z. z) items
no_bad_text t (chunks.I16 items) h = no_bad_numbers t (λ z. z) items
no_bad_text t (chunks.I32 items) h = no_bad_numbers t (λ z. z) items
no_bad_text t (chunks.I64 items) h = no_bad_numbers t (λ z. z) items
no_bad_text t (chunks.I128 items) h = no_bad_numbers t (λ z. z) items
no_bad_text t (chunks.U8 items) h = no_bad_numbers t (λ n. pos n) items
no_bad_text t (chunks.U16 items) h = no_bad_numbers t (λ n. pos n) items
no_bad_text t (chunks.U32 items) h = no_bad_numbers t (λ n. pos n) items
no_bad_text t (chunks.U64 items) h = no_bad_numbers t (λ n. pos n) items
no_bad_text t (chunks.Bytes items) h = absurd (h items refl)

pub dtype_eq_true : (t : DataType) → dtype_eq t String ≡ true → t ≡ String
dtype_eq_true t h = (dtype_eq-Decides t String).0 h

pub ruleset whole_texts = (dtype_eq_true)
