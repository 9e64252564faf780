-- States of sums over texts and bytes, which all are the state of nothing.
use Rattle.std.proofs.Common.{◌≡◌, ◌==◌, ◌+◌, ◌-◌, ℕ, ℤ, zero, suc, true, false, if◌then◌else◌, cond, List, [], ◌∷◌, ◌++◌, length, take, get_or, map, replicate, count_by, refl, sym, ap, ◌∙◌, arith}
use Rattle.std.proofs.Math.ListN.{set}
use Rattle.std.proofs.lemmas.List.Sums.{sum_by-cons}
use Rattle.list_laws.specs.Each.{Each}
use Rattle.col_core.specs.declared.leaf.Leaf.{Leaf}
use Rattle.col_core.specs.declared.leaf.Leaf.TheVariants as leaves
use Rattle.col_core.specs.declared.data_type.DataType.{DataType}
use Rattle.col_core.specs.declared.data_type.DataType.TheVariants.{Boolean, Int8, Int16, Int32, Int64, UInt8, UInt16, UInt32, UInt64, Int128, Decimal, Date, Time, Datetime, Duration, String, Binary}
use Rattle.group_parts.specs.Parts.{dealt}
use Rattle.reduce_model.specs.declared.kind.ReductionKind.TheVariants.{Sum}
use Rattle.reduce_model.specs.Folds.{reduced_type}
use Rattle.reduce_states.specs.States.{State, out, start, one, merge, total, after}
use Rattle.reduce_states.specs.Moves.{entered, cut_or_filled, numbered, ones, states_at}
use Rattle.reduce_states.proofs.Merged.{IsState-start}
use Rattle.group_reduce.specs.Nulls.{are_bytes}

null_total : (t : DataType) (z : ℤ) → are_bytes t ≡ true → total t z ≡ start Sum t
null_total Boolean z h = absurd (cc)
null_total Int8 z h = absurd (cc)
null_total Int16 z h = absurd (cc)
null_total Int32 z h = absurd (cc)
null_total Int64 z h = absurd (cc)
null_total UInt8 z h = absurd (cc)
null_total UInt16 z h = absurd (cc)
null_total UInt32 z h = absurd (cc)
null_total UInt64 z h = absurd (cc)
null_total Int128 z h = absurd (cc)
null_total (Decimal p s) z h = absurd (cc)
null_total Date z h = absurd (cc)
null_total Time z h = absurd (cc)
null_total (Datetime u) z h = absurd (cc)
null_total (Duration u) z h = absurd (cc)
null_total String z h = refl
null_total Binary z h = refl

pub null_type : (t : DataType) → are_bytes t ≡ true → reduced_type Sum t ≡ t
null_type Boolean h = refl
null_type Int8 h = absurd (cc)
null_type Int16 h = absurd (cc)
null_type Int32 h = refl
null_type Int64 h = refl
null_type UInt8 h = absurd (cc)
null_type UInt16 h = absurd (cc)
null_type UInt32 h = refl
null_type UInt64 h = refl
null_type Int128 h = refl
null_type (Decimal p s) h = refl
null_type Date h = refl
null_type Time h = refl
null_type (Datetime u) h = refl
null_type (Duration u) h = refl
null_type String h = refl
null_type Binary h = refl

null_out : (t : DataType) → are_bytes t ≡ true → out (start Sum t) ≡ leaves.Null
null_out Boolean h = absurd (cc)
null_out Int8 h = absurd (cc)
null_out Int16 h = absurd (cc)
null_out Int32 h = absurd (cc)
null_out Int64 h = absurd (cc)
null_out UInt8 h = absurd (cc)
null_out UInt16 h = absurd (cc)
null_out UInt32 h = absurd (cc)
null_out UInt64 h = absurd (cc)
null_out Int128 h = absurd (cc)
null_out (Decimal p s) h = absurd (cc)
null_out Date h = absurd (cc)
null_out Time h = absurd (cc)
null_out (Datetime u) h = absurd (cc)
null_out (Duration u) h = absurd (cc)
null_out String h = refl
null_out Binary h = refl

get_or-replicate : {A : Type 0} (n : ℕ) (d : A) (i : ℕ) → get_or (replicate n d) i d ≡ d
get_or-replicate zero d i = refl
get_or-replicate (suc n) d zero = refl
get_or-replicate (suc n) d (suc i) = get_or-replicate n d i

set-replicate : {A : Type 0} (n : ℕ) (d : A) (i : ℕ) → set (replicate n d) i d ≡ replicate n d
set-replicate zero d i = refl
set-replicate (suc n) d zero = refl
set-replicate {A} (suc n) d (suc i) = ap (λ (xs : List A). d ∷ xs) (set-replicate n d i)

entered-replicate : {A B : Type 0} (d : A) (M : A → B → A) (n : ℕ) (gs : List ℕ) (ys : List B) → Each (λ y. M d y ≡ d) ys → entered d M (replicate n d) gs ys ≡ replicate n d
entered-replicate d M n [] ys h = refl
entered-replicate d M n (g ∷ gs) [] h = refl
entered-replicate {A} {B} d M n (g ∷ gs) (y ∷ ys) h =
    ap (λ (x : A). entered d M (set (replicate n d) g x) gs ys) (ap (λ (x : A). M x y) (get_or-replicate n d g) ∙ h.0)
    ∙ ap (λ (xs : List A). entered d M xs gs ys) (set-replicate n d g)
    ∙ entered-replicate d M n gs ys h.1

abbrev none_yet : DataType → State
none_yet t = start Sum t

stays : (t : DataType) (s : State) → s ≡ none_yet t → merge Sum t (none_yet t) s ≡ none_yet t
stays t s e = ap (merge Sum t (none_yet t)) e ∙ (IsState-start Sum t).left

ones_stay : (t : DataType) (n : ℕ) (vs : List Leaf) → are_bytes t ≡ true → Each (λ y. merge Sum t (none_yet t) y ≡ none_yet t) (ones Sum t n vs)
ones_stay t n [] h = tt
ones_stay t n (v ∷ vs) h = (stays t (one Sum t (record { number = n; value = v })) (null_total t _ h), ones_stay t n vs h)

-- values enter, and every state stays as it was
pub null_enters : (t : DataType) (n m : ℕ) (gs : List ℕ) (vs : List Leaf) (xs ys : List State) → are_bytes t ≡ true → xs ≡ replicate n (none_yet t) → ys ≡ ones Sum t m vs
    → entered (none_yet t) (merge Sum t) xs gs ys ≡ replicate n (none_yet t)
null_enters t n m gs vs xs ys h e f =
    ap (λ (zs : List State). entered (none_yet t) (merge Sum t) zs gs ys) e
    ∙ ap (entered (none_yet t) (merge Sum t) (replicate n (none_yet t)) gs) f
    ∙ entered-replicate (none_yet t) (merge Sum t) n gs (ones Sum t m vs) (ones_stay t m vs h)

replicate_stays : (t : DataType) (m : ℕ) → Each (λ y. merge Sum t (none_yet t) y ≡ none_yet t) (replicate m (none_yet t))
replicate_stays t zero = tt
replicate_stays t (suc m) = (stays t (none_yet t) refl, replicate_stays t m)

pub null_merges : (t u : DataType) (n m : ℕ) (gs : List ℕ) (xs ys : List State) → t ≡ u → xs ≡ replicate n (none_yet t) → ys ≡ replicate m (none_yet u)
    → entered (none_yet t) (merge Sum t) xs gs ys ≡ replicate n (none_yet t)
null_merges t u n m gs xs ys d e f =
    ap (λ (zs : List State). entered (none_yet t) (merge Sum t) zs gs ys) e
    ∙ ap (entered (none_yet t) (merge Sum t) (replicate n (none_yet t)) gs) (f ∙ ap (λ (v : DataType). replicate m (none_yet v)) (sym d))
    ∙ entered-replicate (none_yet t) (merge Sum t) n gs (replicate m (none_yet t)) (replicate_stays t m)

gathered-replicate : (t : DataType) (m : ℕ) (qs : List ℕ) → states_at Sum t (replicate m (none_yet t)) qs ≡ replicate (length qs) (none_yet t)
gathered-replicate t m [] = refl
gathered-replicate t m (q ∷ qs) =
    ap (λ (x : State). x ∷ states_at Sum t (replicate m (none_yet t)) qs) (get_or-replicate m (none_yet t) q)
    ∙ ap (λ (xs : List State). none_yet t ∷ xs) (gathered-replicate t m qs)

pub null_gathers : (t u : DataType) (n m : ℕ) (gs qs : List ℕ) (xs ys zs : List State) → t ≡ u → xs ≡ replicate n (none_yet t) → zs ≡ replicate m (none_yet u) → ys ≡ states_at Sum t zs qs
    → entered (none_yet t) (merge Sum t) xs gs ys ≡ replicate n (none_yet t)
null_gathers t u n m gs qs xs ys zs d e f k =
    null_merges t t n (length qs) gs xs ys refl e
    (k ∙ ap (λ (ws : List State). states_at Sum t ws qs) (f ∙ ap (λ (v : DataType). replicate m (none_yet v)) (sym d)) ∙ gathered-replicate t m qs)

null_after : (t : DataType) (n : ℕ) (vs : List Leaf) → are_bytes t ≡ true → after Sum t (none_yet t) (numbered n vs) ≡ none_yet t
null_after t n [] h = refl
null_after t n (v ∷ vs) h =
    ap (λ (s : State). after Sum t s (numbered n vs)) (stays t (one Sum t (record { number = n; value = v })) (null_total t _ h)) ∙ null_after t n vs h

pub null_enters_at : (t : DataType) (n m g : ℕ) (vs : List Leaf) (xs : List State) → are_bytes t ≡ true → xs ≡ replicate n (none_yet t)
    → set xs g (after Sum t (get_or xs g (none_yet t)) (numbered m vs)) ≡ replicate n (none_yet t)
null_enters_at t n m g vs xs h e =
    ap (λ (zs : List State). set zs g (after Sum t (get_or zs g (none_yet t)) (numbered m vs))) e
    ∙ ap (λ (s : State). set (replicate n (none_yet t)) g (after Sum t s (numbered m vs))) (get_or-replicate n (none_yet t) g)
    ∙ ap (set (replicate n (none_yet t)) g) (null_after t m vs h) ∙ set-replicate n (none_yet t) g

zero_less : (k : ℕ) → zero - k ≡ zero
zero_less k = omega arith

less_zero : (k : ℕ) → k - zero ≡ k
less_zero k = omega arith

suc_less : (a b : ℕ) → suc a - suc b ≡ a - b
suc_less a b = omega arith

one_more : (k : ℕ) → suc k ≡ 1 + k
one_more k = omega arith

none_more : (k : ℕ) → k ≡ 0 + k
none_more k = omega arith

pub null_resizes : (t : DataType) (n m : ℕ) (xs : List State) → xs ≡ replicate n (none_yet t) → cut_or_filled (none_yet t) xs m ≡ replicate m (none_yet t)
null_resizes t n m xs e = ap (λ (zs : List State). cut_or_filled (none_yet t) zs m) e ∙ resized n m
  where
    resized : (n m : ℕ) → cut_or_filled (none_yet t) (replicate n (none_yet t)) m ≡ replicate m (none_yet t)
    resized n zero = ap (λ (k : ℕ). replicate k (none_yet t)) (zero_less (length (replicate n (none_yet t))))
    resized zero (suc m) = ap (λ (k : ℕ). replicate k (none_yet t)) (less_zero (suc m))
    resized (suc n) (suc m) = ap (λ (xs : List State). none_yet t ∷ xs) (ap (λ (k : ℕ). take m (replicate n (none_yet t)) ++ replicate k (none_yet t)) (suc_less m (length (replicate n (none_yet t)))) ∙ resized n m)

pub null_outs : (t : DataType) (n : ℕ) (xs : List State) → are_bytes t ≡ true → xs ≡ replicate n (none_yet t) → replicate n leaves.Null ≡ map out xs
null_outs t n xs h e = each n ∙ sym (ap (map out) e)
  where
    each : (n : ℕ) → replicate n leaves.Null ≡ map out (replicate n (none_yet t))
    each zero = refl
    each (suc n) = ap (λ (v : Leaf). v ∷ replicate n leaves.Null) (sym (null_out t h)) ∙ ap (λ (vs : List Leaf). out (none_yet t) ∷ vs) (each n)

pub dealt-replicate : {A : Type 0} (p : ℕ) (is : List ℕ) (n : ℕ) (d : A) → length is ≡ n → dealt p is (replicate n d) ≡ replicate (count_by (λ j. j == p) is) d
dealt-replicate p [] n d e = refl
dealt-replicate p (i ∷ is) zero d e = absurd (omega arith)
dealt-replicate {A} p (i ∷ is) (suc n) d e =
    let rest : dealt p is (replicate n d) ≡ replicate (count_by (λ j. j == p) is) d = dealt-replicate p is n d (omega arith) in
    let here : (if i == p then d ∷ dealt p is (replicate n d) else dealt p is (replicate n d)) ≡ replicate (cond (i == p) 1 0 + count_by (λ j. j == p) is) d =
    elim (i == p) as (λ b. (if b then d ∷ dealt p is (replicate n d) else dealt p is (replicate n d)) ≡ replicate (cond b 1 0 + count_by (λ j. j == p) is) d) [
      | true ↦ ap (λ (xs : List A). d ∷ xs) rest ∙ ap (λ (k : ℕ). replicate k d) (one_more (count_by (λ j. j == p) is))
      | false ↦ rest ∙ ap (λ (k : ℕ). replicate k d) (none_more (count_by (λ j. j == p) is))
    ] in
    here ∙ ap (λ (k : ℕ). replicate k d) (sym (sum_by-cons (λ j. cond (j == p) 1 0) i is))
