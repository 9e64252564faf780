-- The best of bytes, value by value and chunk by chunk.
use Rattle.std.proofs.Common.{◌≡◌, ℕ, zero, suc, ◌+◌, ◌<◌, Bool, true, false, if◌then◌else◌, Bor, Option, Some, None, option_and_then, slice_get, List, [], ◌∷◌, ◌++◌, fold, map, length, take, get_or, refl, sym, ap, ◌∙◌, arith}
use Rattle.std.specs.List.{All}
use Rattle.std.specs.declared.cmp.Ordering.{Ordering}
use Rattle.std.specs.Ordering.{is_gt}
use Rattle.std.proofs.lemmas.List.{take_more}
use Rattle.std.proofs.lemmas.List.Sums.{fold-append}
use Rattle.col_arrays.specs.Items.{item_of}
use Rattle.col_core.specs.declared.chunk.Chunk.{Chunk}
use Rattle.col_core.specs.declared.leaf.Leaf.{Leaf}
use Rattle.col_core.specs.declared.leaf.Leaf.TheVariants as leaves
use Rattle.col_core.specs.declared.leaf.LeafRef.{LeafRef}
use Rattle.col_core.specs.declared.leaf.LeafRef.TheVariants as lents
use Rattle.col_core.specs.declared.data_type.DataType.{DataType}
use Rattle.col_core.specs.Lent.{lent_leaf}
use Rattle.col_core.specs.Physical.{HasBytes}
use Rattle.col_core.specs.Tables.{chunk_leaves, leaves_of}
use Rattle.col_core.specs.Values.{Fits, value_at, item_leaf, is_text}
use Rattle.reduce_model.specs.declared.kind.ReductionKind.{ReductionKind}
use Rattle.reduce_model.specs.Folds.{fold_of, better}
use Rattle.group_reduce.specs.Masked.{skips_nulls}
use Rattle.kept_values.specs.Kept.{bytes_or_null}
use Rattle.kept_values.proofs.Types.{fits_text}
use Rattle.reduce_min_max.specs.Best.{order_of}
use Rattle.reduce_min_max.proofs.Best.{fold_of_best}
use Rattle.reduce_min_max.proofs.Columns.{leaves_more}

-- the item at a place, as a value
pub item_bytes : (items : List (List ℕ × Bool)) (i : ℕ) → i < length items → bytes_or_null (option_and_then item_of (slice_get items i)) ≡ value_at (map (item_leaf (λ b. leaves.Bytes b)) items) i
item_bytes [] i h = absurd (omega arith)
item_bytes ((b, true) ∷ items) zero h = refl
item_bytes ((b, false) ∷ items) zero h = refl
item_bytes (item ∷ items) (suc i) h = item_bytes items i (omega arith)

-- one value more
pub fold_more : (f : Leaf → Leaf → Leaf) (v : Leaf) (vs : List Leaf) (i : ℕ) → i < length vs → fold f v (take (i + 1) vs) ≡ f (fold f v (take i vs)) (value_at vs i)
fold_more f v vs i h = ap (fold f v) (take_more vs i leaves.Null h) ∙ fold-append f v (take i vs) (value_at vs i ∷ [])

pub fold_of_more : (k : ReductionKind) (t : DataType) (vs : List Leaf) (i : ℕ) → skips_nulls k ≡ true → i < length vs → fold_of k t (take (i + 1) vs) ≡ better (order_of k) (fold_of k t (take i vs)) (value_at vs i)
fold_of_more k t vs i s h =
    let f = better (order_of k) in
    fold_of_best k t (take (i + 1) vs) s ∙ fold_more f leaves.Null vs i h ∙ ap (λ (v : Leaf). f v (value_at vs i)) (sym (fold_of_best k t (take i vs) s))

-- the values of one chunk more
pub chunk_more : (k : ReductionKind) (t : DataType) (cs : List Chunk) (i : ℕ) (c : Chunk) (before after : Leaf) → skips_nulls k ≡ true → i < length cs → c ≡ get_or cs i c
    → before ≡ fold_of k t (leaves_of (take i cs)) → after ≡ fold (better (order_of k)) before (chunk_leaves c) → after ≡ fold_of k t (leaves_of (take (i + 1) cs))
chunk_more k t cs i c before after s h e p q =
    let f = better (order_of k) in
    q
    ∙ ap (λ (v : Leaf). fold f v (chunk_leaves c)) (p ∙ fold_of_best k t (leaves_of (take i cs)) s)
    ∙ sym (fold-append f leaves.Null (leaves_of (take i cs)) (chunk_leaves c))
    ∙ ap (fold f leaves.Null) (sym (leaves_more cs i c h e))
    ∙ sym (fold_of_best k t (leaves_of (take (i + 1) cs)) s)

-- ---- texts

chosen_text : (c : Bool) (t : DataType) (a b : Leaf) → is_text t a ≡ true → is_text t b ≡ true → is_text t (if c then b else a) ≡ true
chosen_text true t a b p q = q
chosen_text false t a b p q = p

better_text : (R : Leaf → Leaf → Ordering) (t : DataType) (a b : Leaf) → is_text t a ≡ true → is_text t b ≡ true → is_text t (better R a b) ≡ true
better_text R t leaves.Null b p q = q
better_text R t (leaves.Bool x) leaves.Null p q = p
better_text R t (leaves.Whole x) leaves.Null p q = p
better_text R t (leaves.Bytes x) leaves.Null p q = p
better_text R t (leaves.Bool x) (leaves.Bool y) p q = chosen_text (is_gt (R (leaves.Bool x) (leaves.Bool y))) t (leaves.Bool x) (leaves.Bool y) p q
better_text R t (leaves.Bool x) (leaves.Whole y) p q = chosen_text (is_gt (R (leaves.Bool x) (leaves.Whole y))) t (leaves.Bool x) (leaves.Whole y) p q
better_text R t (leaves.Bool x) (leaves.Bytes y) p q = chosen_text (is_gt (R (leaves.Bool x) (leaves.Bytes y))) t (leaves.Bool x) (leaves.Bytes y) p q
better_text R t (leaves.Whole x) (leaves.Bool y) p q = chosen_text (is_gt (R (leaves.Whole x) (leaves.Bool y))) t (leaves.Whole x) (leaves.Bool y) p q
better_text R t (leaves.Whole x) (leaves.Whole y) p q = chosen_text (is_gt (R (leaves.Whole x) (leaves.Whole y))) t (leaves.Whole x) (leaves.Whole y) p q
better_text R t (leaves.Whole x) (leaves.Bytes y) p q = chosen_text (is_gt (R (leaves.Whole x) (leaves.Bytes y))) t (leaves.Whole x) (leaves.Bytes y) p q
better_text R t (leaves.Bytes x) (leaves.Bool y) p q = chosen_text (is_gt (R (leaves.Bytes x) (leaves.Bool y))) t (leaves.Bytes x) (leaves.Bool y) p q
better_text R t (leaves.Bytes x) (leaves.Whole y) p q = chosen_text (is_gt (R (leaves.Bytes x) (leaves.Whole y))) t (leaves.Bytes x) (leaves.Whole y) p q
better_text R t (leaves.Bytes x) (leaves.Bytes y) p q = chosen_text (is_gt (R (leaves.Bytes x) (leaves.Bytes y))) t (leaves.Bytes x) (leaves.Bytes y) p q

fold_text : (R : Leaf → Leaf → Ordering) (t : DataType) (v : Leaf) (vs : List Leaf) → is_text t v ≡ true → All (Fits t) vs → is_text t (fold (better R) v vs) ≡ true
fold_text R t v [] h all = h
fold_text R t v (w ∷ vs) h all = fold_text R t (better R v w) vs (better_text R t v w h (fits_text t w (all 0 w (omega arith)))) (λ i d l. all (suc i) d (omega arith))

-- the best of texts is a text
pub best_text : (k : ReductionKind) (t : DataType) (vs : List Leaf) → skips_nulls k ≡ true → All (Fits t) vs → is_text t (fold_of k t vs) ≡ true
best_text k t vs s all = ap (is_text t) (fold_of_best k t vs s) ∙ fold_text (order_of k) t leaves.Null vs refl all

-- where bytes or nothing is lent, and no bytes, there is a null
pub no_bytes_lent : (r : LeafRef) → HasBytes (lent_leaf r) → ((b : Bor (List ℕ)) → r ≡ lents.Bytes b → ⊥) → lent_leaf r ≡ leaves.Null
no_bytes_lent lents.Null k n = refl
no_bytes_lent (lents.Bool b) k n = absurd k
no_bytes_lent (lents.Whole z) k n = absurd k
no_bytes_lent (lents.Bytes b) k n = absurd (n b refl)
