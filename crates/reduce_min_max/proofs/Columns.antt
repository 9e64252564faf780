-- The best number of a column, chunk by chunk.
use Rattle.std.proofs.Common.{◌≡◌, ℕ, ◌+◌, ◌<◌, ℤ, true, Option, Some, None, List, ◌∷◌, [], ◌++◌, length, take, get_or, refl, sym, ap, ap₂, ◌∙◌}
use Rattle.std.proofs.lemmas.List.{take_more}
use Rattle.std.proofs.lemmas.Grind.{flat_map-append}
use Rattle.col_core.specs.declared.chunk.Chunk.{Chunk}
use Rattle.col_core.specs.declared.leaf.Leaf.{Leaf}
use Rattle.col_core.specs.declared.leaf.Leaf.TheVariants as leaves
use Rattle.col_core.specs.declared.data_type.DataType.{DataType}
use Rattle.col_core.specs.Tables.{chunk_leaves, leaves_of}
use Rattle.col_core.proofs.Leaves.{leaves_of_one}
use Rattle.reduce_model.specs.declared.kind.ReductionKind.{ReductionKind}
use Rattle.reduce_model.specs.Folds.{fold_of, better}
use Rattle.group_reduce.specs.Masked.{skips_nulls}
use Rattle.kept_values.specs.Kept.{number_or_null}
use Rattle.reduce_min_max.specs.Best.{order_of, better_whole}
use Rattle.reduce_min_max.proofs.Best.{better_numbers, fold_of-append}

-- the values of one chunk more
pub leaves_more : (cs : List Chunk) (i : ℕ) (c : Chunk) → i < length cs → c ≡ get_or cs i c → leaves_of (take (i + 1) cs) ≡ leaves_of (take i cs) ++ chunk_leaves c
leaves_more cs i c h e =
    ap leaves_of (take_more cs i c h ∙ ap (λ (d : Chunk). take i cs ++ d ∷ []) (sym e))
    ∙ flat_map-append chunk_leaves (take i cs) (c ∷ [])
    ∙ ap (λ (vs : List Leaf). leaves_of (take i cs) ++ vs) (leaves_of_one c)

-- what is best of two numbers, either of which may be missing
both : {T : Type 0} (k : ReductionKind) (value : T → ℤ) (a b : Option T) (x y r : T) → skips_nulls k ≡ true → a ≡ Some x → b ≡ Some y → value r ≡ better_whole k (value x) (value y)
    → number_or_null value (Some r) ≡ better (order_of k) (number_or_null value a) (number_or_null value b)
both k value a b x y r s p q e = rw (p, q) (ap leaves.Whole e ∙ sym (better_numbers k (value x) (value y) s))

missing_first : {T : Type 0} (k : ReductionKind) (value : T → ℤ) (a b : Option T) → a ≡ None → number_or_null value b ≡ better (order_of k) (number_or_null value a) (number_or_null value b)
missing_first k value a b p = rw p refl

missing_second : {T : Type 0} (k : ReductionKind) (value : T → ℤ) (a b : Option T) → b ≡ None → number_or_null value a ≡ better (order_of k) (number_or_null value a) (number_or_null value b)
missing_second k value None b p = rw p refl
missing_second k value (Some x) b p = rw p refl

-- the best of the chunks so far and of the next
module _ {T : Type 0} (k : ReductionKind) (t : DataType) (value : T → ℤ) (cs : List Chunk) (i : ℕ) (c : Chunk) (best next : Option T) (skips : skips_nulls k ≡ true)
    (inside : i < length cs) (here : c ≡ get_or cs i c) (so_far : number_or_null value best ≡ fold_of k t (leaves_of (take i cs))) (of_next : number_or_null value next ≡ fold_of k t (chunk_leaves c)) where
  joined : better (order_of k) (number_or_null value best) (number_or_null value next) ≡ fold_of k t (leaves_of (take (i + 1) cs))
  joined = ap₂ (better (order_of k)) so_far of_next ∙ sym (fold_of-append k t (leaves_of (take i cs)) (chunk_leaves c) skips) ∙ ap (fold_of k t) (sym (leaves_more cs i c inside here))

  pub next_both : (x y r : T) → best ≡ Some x → next ≡ Some y → value r ≡ better_whole k (value x) (value y) → number_or_null value (Some r) ≡ fold_of k t (leaves_of (take (i + 1) cs))
  next_both x y r p q e = both k value best next x y r skips p q e ∙ joined

  pub next_first : best ≡ None → number_or_null value next ≡ fold_of k t (leaves_of (take (i + 1) cs))
  next_first p = missing_first k value best next p ∙ joined

  pub next_missing : next ≡ None → number_or_null value best ≡ fold_of k t (leaves_of (take (i + 1) cs))
  next_missing p = missing_second k value best next p ∙ joined
