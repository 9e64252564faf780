-- Hashes that stand beside keys.
use Rattle.std.proofs.Common.{◌≡◌, ℕ, zero, suc, ◌+◌, ◌<◌, Bool, true, false, List, [], ◌∷◌, ◌++◌, map, length, take, get_or, slice_get, IfSome, Some, None, refl, sym, ◌∙◌, ap, subst, arith}
use Rattle.std.proofs.lemmas.List.{length-map}
use Rattle.key_parts.specs.declared.hash.PlRandomState.{PlRandomState}
use Rattle.key_parts.specs.Hashes.{hash_of}
use Rattle.col_arrays.specs.Items.{stored, item_of}
use Rattle.hash_keys.specs.Keys.{Keys, key_at}
use Rattle.hash_keys.specs.Hashed.{AreHashed}

-- the hash beside a key that is present is that of the key
hashed_at : (state : PlRandomState) (items : List (List ℕ × Bool)) (i d : ℕ) → i < length items
    → IfSome (key_at (map item_of items) i) (λ key. get_or (map (hash_of state) (stored items)) i d ≡ hash_of state key)
hashed_at state [] i d below = absurd (omega arith)
hashed_at state ((x, true) ∷ items) zero d below = refl
hashed_at state ((x, false) ∷ items) zero d below = tt
hashed_at state (item ∷ items) (suc i) d below = hashed_at state items i d (omega arith)

-- the same of what is kept, as contracts see it
pub hash_found : (keys : Keys) (state : PlRandomState) (hashes : List ℕ) (items : List (List ℕ × Bool)) (i hash : ℕ)
    → record { state = state; keys = map item_of items } ≡ keys → AreHashed state hashes items
    → i < length keys.keys → hash ≡ get_or hashes i hash
    → IfSome (key_at keys.keys i) (λ key. hash ≡ hash_of keys.state key)
hash_found keys state hashes items i hash view kept below is =
    let P : Keys → Type 0 = λ k. IfSome (key_at k.keys i) (λ key. hash ≡ hash_of k.state key) in
    let Q : ℕ → Type 0 = λ n. IfSome (key_at (map item_of items) i) (λ key. n ≡ hash_of state key) in
    let long : length (map item_of items) ≡ length keys.keys = ap (λ (k : Keys). length k.keys) view in
    let within : i < length items = omega (arith, long, length-map items (item_of {T = List ℕ})) in
    let here : get_or (map (hash_of state) (stored items)) i hash ≡ hash = ap (λ (l : List ℕ). get_or l i hash) (sym kept.hashed) ∙ sym is in
    subst P view (subst Q here (hashed_at state items i hash within))

some_same : {X : Type 0} {x y : X} → Some x ≡ Some y → x ≡ y
some_same e = cc

hash_after : (state : PlRandomState) (xs : List (List ℕ)) (i : ℕ) (x : List ℕ) → slice_get xs i ≡ Some x
    → map (hash_of state) (take i xs) ++ hash_of state x ∷ [] ≡ map (hash_of state) (take (suc i) xs)
hash_after state [] i x at = absurd (let no : None ≡ Some x = at in cc)
hash_after state (y ∷ xs) zero x at = ap (λ (z : List ℕ). hash_of state z ∷ []) (sym (some_same at))
hash_after state (y ∷ xs) (suc i) x at = ap (λ rest. hash_of state y ∷ rest) (hash_after state xs i x at)

-- one hash more
pub hash_more : (state : PlRandomState) (xs : List (List ℕ)) (i : ℕ) (x : List ℕ) → slice_get xs i ≡ Some x
    → map (hash_of state) (take i xs) ++ hash_of state x ∷ [] ≡ map (hash_of state) (take (i + 1) xs)
hash_more state xs i x at =
    let next : i + 1 ≡ suc i = omega arith in
    rw next (hash_after state xs i x at)
