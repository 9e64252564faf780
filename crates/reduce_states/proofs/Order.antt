-- The order of values is total, and the lesser of two under a total order is associative.
use Rattle.std.proofs.Common.{◌≡◌, ℕ, ℤ, pos, Bool, true, false, List, [], ◌∷◌, refl, sym, ap, ◌∙◌}
use Rattle.std.specs.declared.cmp.Ordering.{Ordering}
use Rattle.std.specs.declared.cmp.Ordering.TheVariants.{Less, Equal, Greater}
use Rattle.std.specs.Ordering.{nat_cmp, int_cmp, bool_cmp, then_cmp, on, ordering_then, ordering_reverse, is_gt}
use Rattle.std.specs.Cmp.{IsTotalOrder, bool_cmp_total}
use Rattle.std.specs.Cmp.Lexicographic.{slice_cmp}
use Rattle.std.proofs.lemmas.Cmp.{nat_cmp_total, int_cmp_total, nat_list_cmp_total, on_total, then_total, upto, int_ranked, ranked}
use Rattle.col_core.specs.declared.leaf.Leaf.{Leaf}
use Rattle.col_core.specs.declared.leaf.Leaf.TheVariants as leaves
use Rattle.reduce_model.specs.Orders.{kind_rank, leaf_cmp, least_by}

abbrev truth : Leaf → Bool
truth (leaves.Bool b) = b
truth _ = false

abbrev whole : Leaf → ℤ
whole (leaves.Whole z) = z
whole _ = pos 0

abbrev bytes : Leaf → List ℕ
bytes (leaves.Bytes b) = b
bytes _ = []

-- by kind, then by each part that a value may have
abbrev by_parts : Leaf → Leaf → Ordering
by_parts = then_cmp (on kind_rank nat_cmp) (then_cmp (on truth bool_cmp) (then_cmp (on whole int_cmp) (on bytes (slice_cmp nat_cmp))))

then_equal : (o : Ordering) → o ≡ ordering_then o Equal
then_equal Less = refl
then_equal Equal = refl
then_equal Greater = refl

leaf_cmp_is : (a b : Leaf) → leaf_cmp a b ≡ by_parts a b
leaf_cmp_is leaves.Null leaves.Null = refl
leaf_cmp_is leaves.Null (leaves.Bool y) = refl
leaf_cmp_is leaves.Null (leaves.Whole y) = refl
leaf_cmp_is leaves.Null (leaves.Bytes y) = refl
leaf_cmp_is (leaves.Bool x) leaves.Null = refl
leaf_cmp_is (leaves.Bool x) (leaves.Bool y) = then_equal (bool_cmp x y)
leaf_cmp_is (leaves.Bool x) (leaves.Whole y) = refl
leaf_cmp_is (leaves.Bool x) (leaves.Bytes y) = refl
leaf_cmp_is (leaves.Whole x) leaves.Null = refl
leaf_cmp_is (leaves.Whole x) (leaves.Bool y) = refl
leaf_cmp_is (leaves.Whole x) (leaves.Whole y) = then_equal (int_cmp x y)
leaf_cmp_is (leaves.Whole x) (leaves.Bytes y) = refl
leaf_cmp_is (leaves.Bytes x) leaves.Null = refl
leaf_cmp_is (leaves.Bytes x) (leaves.Bool y) = refl
leaf_cmp_is (leaves.Bytes x) (leaves.Whole y) = refl
leaf_cmp_is (leaves.Bytes x) (leaves.Bytes y) = refl

same_order : {K : Type 0} {R S : K → K → Ordering} → ((x y : K) → R x y ≡ S x y) → IsTotalOrder S → IsTotalOrder R
same_order e o = record {
  antisymm = λ x y. e x y ∙ o.antisymm x y ∙ ap ordering_reverse (sym (e y x));
  trans = λ x y z h k. e x z ∙ o.trans x y z (sym (e x y) ∙ h) (sym (e y z) ∙ k);
  congr = λ x y z h. e x z ∙ o.congr x y z (sym (e x y) ∙ h) ∙ sym (e y z);
}

pub leaf_cmp_total : IsTotalOrder leaf_cmp
leaf_cmp_total = same_order leaf_cmp_is (then_total (on_total kind_rank nat_cmp_total) (then_total (on_total truth bool_cmp_total) (then_total (on_total whole int_cmp_total) (on_total bytes nat_list_cmp_total))))

is_greater : (r : Ordering) → is_gt r ≡ true → r ≡ Greater
is_greater Less e = absurd (cc)
is_greater Equal e = absurd (cc)
is_greater Greater e = refl

greater_trans : {K : Type 0} {R : K → K → Ordering} (o : IsTotalOrder R) (a b c : K) → is_gt (R a b) ≡ true → is_gt (R b c) ≡ true → is_gt (R a c) ≡ true
greater_trans {K = K} {R = R} o a b c h k =
    let turn : (x y : K) → is_gt (R x y) ≡ true → R y x ≡ Less = λ x y e. o.antisymm y x ∙ ap ordering_reverse (is_greater (R x y) e) in
    ap is_gt (o.antisymm a c ∙ ap ordering_reverse (o.trans c b a (turn b c k) (turn a b h)))

pub least_by-assoc : {K : Type 0} {R : K → K → Ordering} (o : IsTotalOrder R) (a b c : K) → least_by R (least_by R a b) c ≡ least_by R a (least_by R b c)
least_by-assoc {K = K} {R = R} o a b c = along (is_gt (R a b)) (is_gt (R b c)) refl refl
  where
    along : (p q : Bool) → is_gt (R a b) ≡ p → is_gt (R b c) ≡ q → least_by R (least_by R a b) c ≡ least_by R a (least_by R b c)
    along true true e f = rw (e, f, greater_trans o a b c e f) refl
    along true false e f = rw (e, f, e) refl
    along false true e f = rw (e, f) refl
    along false false e f = rw (e, f, e, upto o a b c e f) refl

-- the order of the two does not matter where they tie only as the same
pub least_by-comm : {K : Type 0} {R : K → K → Ordering} (o : IsTotalOrder R) (a b : K) → (R a b ≡ Equal → a ≡ b) → least_by R a b ≡ least_by R b a
least_by-comm {K = K} {R = R} o a b same = along (R a b) (R b a) refl refl (o.antisymm b a)
  where
    along : (r s : Ordering) → R a b ≡ r → R b a ≡ s → R b a ≡ ordering_reverse (R a b) → least_by R a b ≡ least_by R b a
    along Less Greater e f h = rw (e, f) refl
    along Greater Less e f h = rw (e, f) refl
    along Equal Equal e f h = rw (e, f) (same e)
    along Less Less e f h = absurd (cc)
    along Less Equal e f h = absurd (cc)
    along Equal Less e f h = absurd (cc)
    along Equal Greater e f h = absurd (cc)
    along Greater Equal e f h = absurd (cc)
    along Greater Greater e f h = absurd (cc)

bool_same : (x y : Bool) → bool_cmp x y ≡ Equal → x ≡ y
bool_same true true e = refl
bool_same true false e = absurd (cc)
bool_same false true e = absurd (cc)
bool_same false false e = refl

int_same : (x y : ℤ) → int_cmp x y ≡ Equal → x ≡ y
int_same x y e = rw e at (int_ranked x y (int_cmp x y) refl)

pub nat_same : (x y : ℕ) → nat_cmp x y ≡ Equal → x ≡ y
nat_same x y e = rw e at (ranked x y (nat_cmp x y) refl)

list_same : (x y : List ℕ) → slice_cmp nat_cmp x y ≡ Equal → x ≡ y
list_same [] [] e = refl
list_same [] (y ∷ ys) e = absurd (cc)
list_same (x ∷ xs) [] e = absurd (cc)
list_same (x ∷ xs) (y ∷ ys) e = along (λ f. list_same xs ys f) (nat_cmp x y) refl e
  where
    along : (slice_cmp nat_cmp xs ys ≡ Equal → xs ≡ ys) → (r : Ordering) → nat_cmp x y ≡ r → ordering_then r (slice_cmp nat_cmp xs ys) ≡ Equal → x ∷ xs ≡ y ∷ ys
    along more Less f e = absurd (cc)
    along more Equal f e = cc (nat_same x y f, more e)
    along more Greater f e = absurd (cc)

-- values that tie are the same
pub leaf_same : (a b : Leaf) → leaf_cmp a b ≡ Equal → a ≡ b
leaf_same leaves.Null leaves.Null e = refl
leaf_same leaves.Null (leaves.Bool y) e = absurd (cc)
leaf_same leaves.Null (leaves.Whole y) e = absurd (cc)
leaf_same leaves.Null (leaves.Bytes y) e = absurd (cc)
leaf_same (leaves.Bool x) leaves.Null e = absurd (cc)
leaf_same (leaves.Bool x) (leaves.Bool y) e = ap leaves.Bool (bool_same x y e)
leaf_same (leaves.Bool x) (leaves.Whole y) e = absurd (cc)
leaf_same (leaves.Bool x) (leaves.Bytes y) e = absurd (cc)
leaf_same (leaves.Whole x) leaves.Null e = absurd (cc)
leaf_same (leaves.Whole x) (leaves.Bool y) e = absurd (cc)
leaf_same (leaves.Whole x) (leaves.Whole y) e = ap leaves.Whole (int_same x y e)
leaf_same (leaves.Whole x) (leaves.Bytes y) e = absurd (cc)
leaf_same (leaves.Bytes x) leaves.Null e = absurd (cc)
leaf_same (leaves.Bytes x) (leaves.Bool y) e = absurd (cc)
leaf_same (leaves.Bytes x) (leaves.Whole y) e = absurd (cc)
leaf_same (leaves.Bytes x) (leaves.Bytes y) e = ap leaves.Bytes (list_same x y e)
