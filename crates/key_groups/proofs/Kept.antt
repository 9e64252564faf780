-- Keys that a map keeps, with their hashes.
use Rattle.std.proofs.Common.{◌≡◌, ℕ, zero, suc, ◌<◌, List, [], ◌∷◌, length, get_or, slice_get, slice_index_or, Option, Some, None, refl, sym, ap, ◌∙◌, subst, arith}
use Rattle.std.specs.List.{All}
use Rattle.std.specs.Prelude.{unwrap_or}
use Rattle.std.proofs.lemmas.List.Elements.{All-head, All-tail}
use Rattle.col_core.specs.declared.schema.Field.{Field}
use Rattle.row_code.specs.Spelling.{IsSpelling}
use Rattle.key_parts.specs.declared.hash.PlRandomState.{PlRandomState}
use Rattle.key_parts.specs.Hashes.{hash_of}
use Rattle.key_parts.specs.Partitions.{Partitioner, partition_of, partition_of_hash}
use Rattle.hash_keys.specs.Keys.{Key, key_at as row_key}
use Rattle.byte_map.specs.Entries.{Entry, keys_of, hashes_of, ComesWith}
use Rattle.key_groups.specs.Groups.{bytes_of, key_at}
use Rattle.key_groups.specs.Dealt.{all_present}

some_same : {X : Type 0} {x y : X} → Some x ≡ Some y → x ≡ y
some_same e = cc

pub key_found : (keys : List (List ℕ)) (i : ℕ) (key : List ℕ) → slice_get keys i ≡ Some key → key ≡ slice_index_or keys i []
key_found [] i key at = absurd (let no : None ≡ Some key = at in cc)
key_found (x ∷ xs) zero key at = sym (some_same at)
key_found (x ∷ xs) (suc i) key at = key_found xs i key at

module _ {V : Type 0} (state : PlRandomState) where
  abbrev pub Hashed : Entry V → Type 0
  Hashed e = e.hash ≡ hash_of state e.key

  -- each key comes with the hash that was kept
  pub comes : (es : List (Entry V)) (hash : ℕ) (key : List ℕ) → All Hashed es → hash ≡ hash_of state key → ComesWith es hash key
  comes [] hash key kept h i l same = absurd (omega arith)
  comes (e ∷ es) hash key kept h zero l same = All-head Hashed e es kept ∙ ap (hash_of state) same ∙ sym h
  comes (e ∷ es) hash key kept h (suc i) l same = comes es hash key (All-tail Hashed e es kept) h i (omega arith) same

  pub hash_found : (es : List (Entry V)) (i hash : ℕ) (key : List ℕ) → All Hashed es → slice_get (hashes_of es) i ≡ Some hash → slice_get (keys_of es) i ≡ Some key → hash ≡ hash_of state key
  hash_found [] i hash key kept h k = absurd (let no : None ≡ Some key = k in cc)
  hash_found (e ∷ es) zero hash key kept h k = sym (some_same h) ∙ All-head Hashed e es kept ∙ ap (hash_of state) (some_same k)
  hash_found (e ∷ es) (suc i) hash key kept h k = hash_found es i hash key (All-tail Hashed e es kept) h k

-- the bytes of a key that is present
pub given_at : (keys : List Key) (i : ℕ) (b : List ℕ) → i < length keys → Some b ≡ row_key keys i → b ≡ get_or (bytes_of keys) i []
given_at [] i b lt at = absurd (omega arith)
given_at (k ∷ keys) zero b lt at = ap (λ (o : Option (List ℕ)). unwrap_or o []) at
given_at (k ∷ keys) (suc i) b lt at = given_at keys i b (omega arith) at

-- a key among keys that are all present
pub present_at : (keys : List (List ℕ)) (i : ℕ) → i < length keys → row_key (all_present keys) i ≡ Some (key_at keys i)
present_at [] i lt = absurd (omega arith)
present_at (k ∷ keys) zero lt = refl
present_at (k ∷ keys) (suc i) lt = present_at keys i (omega arith)

-- the partition of a key
pub part_is : (state : PlRandomState) (p : Partitioner) (q h : ℕ) (b key : List ℕ) → q ≡ partition_of_hash p h → h ≡ hash_of state b → b ≡ key → q ≡ partition_of state p (Some key)
unfolding partition_of
part_is state p q h b key e f g = e ∙ ap (partition_of_hash p) (f ∙ ap (hash_of state) g)

-- the keys that are kept spell rows
pub spelled_at : {V : Type 0} (schema : List Field) (es : List (Entry V)) (i : ℕ) (key : List ℕ) → All (λ e. IsSpelling schema e.key) es → slice_get (keys_of es) i ≡ Some key → IsSpelling schema key
spelled_at schema [] i key kept at = absurd (let no : None ≡ Some key = at in cc)
spelled_at {V} schema (e ∷ es) zero key kept at = subst (IsSpelling schema) (some_same at) (All-head (λ (x : Entry V). IsSpelling schema x.key) e es kept)
spelled_at {V} schema (e ∷ es) (suc i) key kept at = spelled_at schema es i key (All-tail (λ (x : Entry V). IsSpelling schema x.key) e es kept) at
