-- Values that are kept with a number, and the states for which they stand.
use Rattle.std.proofs.Common.{◌≡◌, ◌<◌, ◌+◌, ◌-◌, ◌^◌, ℕ, zero, suc, Bool, true, false, nat_lt, nat_le, not, Some, None, List, [], ◌∷◌, length, if◌then◌else◌, refl, sym, ap, subst, ◌∙◌, arith}
use Rattle.std.proofs.lemmas.Bool.{false≢true}
use Rattle.std.specs.Ordering.{nat_cmp, flip_args, is_gt}
use Rattle.col_core.specs.declared.leaf.Leaf.{Leaf}
use Rattle.col_core.specs.declared.leaf.Leaf.TheVariants as leaves
use Rattle.col_core.specs.declared.data_type.DataType.{DataType}
use Rattle.col_core.specs.Values.{value_at}
use Rattle.reduce_model.specs.declared.kind.ReductionKind.{ReductionKind}
use Rattle.reduce_model.specs.declared.kind.ReductionKind.TheVariants as kinds
use Rattle.reduce_model.specs.Orders.{least_by}
use Rattle.reduce_states.specs.States.{Entry, State, out, by_number, start, one, merge, after}
use Rattle.reduce_states.specs.Moves.{numbered}
use Rattle.reduce_states.proofs.Merged.{after-is, IsState-plain, start-plain}
use Rattle.group_reduce.specs.Reducing.{TakesOne, TakesAll}
use Rattle.reduce_first_last.specs.Numbers.{goes_by_number, number_before, replaces, kept_place, numbered_state}
use Rattle.reduce_first_last.specs.NumberLaws.{not_a_sum}

-- ---- one kept value and another

before_suc : (n : ℕ) → suc n < 2 ^ 64 → number_before (suc n) ≡ n
before_suc n h = omega arith

-- which of two numbers is above the other
above_is : (a b : ℕ) → is_gt (nat_cmp a b) ≡ nat_lt b a
above_is a b = grind arith

lesser_is : (b : Bool) (m n : ℕ) (v w : Leaf) → Some (if b then record { number = n; value = w } else record { number = m; value = v }) ≡ (if b then numbered_state (suc n) w else numbered_state (suc m) v)
lesser_is true m n v w = refl
lesser_is false m n v w = refl

greater_is : (m n : ℕ) (v w : Leaf) → Some (least_by (flip_args by_number) (record { number = n; value = w }) (record { number = m; value = v })) ≡ (if nat_le (suc m) (suc n) then numbered_state (suc n) w else numbered_state (suc m) v)
greater_is m n v w = along (nat_lt n m) (nat_le (suc m) (suc n)) (above_is m n) (grind arith)
  where
    along : (b c : Bool) → is_gt (nat_cmp m n) ≡ b → c ≡ not b → Some (least_by (flip_args by_number) (record { number = n; value = w }) (record { number = m; value = v })) ≡ (if c then numbered_state (suc n) w else numbered_state (suc m) v)
    along true true e f = absurd (cc)
    along true false e f = rw e refl
    along false true e f = rw e refl
    along false false e f = absurd (cc)

-- two kept values merge by their numbers
pub chosen : (k : ReductionKind) (t : DataType) (m n : ℕ) (v w : Leaf) → goes_by_number k ≡ true → m < 2 ^ 64 → n < 2 ^ 64
    → merge k t (numbered_state m v) (numbered_state n w) ≡ (if replaces k n m then numbered_state n w else numbered_state m v)
chosen kinds.First t zero zero v w g h i = refl
chosen kinds.First t zero (suc n) v w g h i =
    let less : nat_lt (number_before (suc n)) (number_before zero) ≡ true = rw (before_suc n i) (grind arith) in
    rw less refl
chosen kinds.First t (suc m) zero v w g h i =
    let more : nat_lt (number_before zero) (number_before (suc m)) ≡ false = rw (before_suc m h) (grind arith) in
    rw more refl
chosen kinds.First t (suc m) (suc n) v w g h i = rw (before_suc m h, before_suc n i, above_is m n) (lesser_is (nat_lt n m) m n v w)
chosen kinds.Last t zero zero v w g h i = refl
chosen kinds.Last t zero (suc n) v w g h i =
    let less : nat_le zero (suc n) ≡ true = grind arith in
    rw less refl
chosen kinds.Last t (suc m) zero v w g h i =
    let more : nat_le (suc m) zero ≡ false = grind arith in
    rw more refl
chosen kinds.Last t (suc m) (suc n) v w g h i = greater_is m n v w
chosen kinds.Sum t m n v w g h i = absurd (false≢true g)
chosen kinds.Min t m n v w g h i = absurd (false≢true g)
chosen kinds.Max t m n v w g h i = absurd (false≢true g)

-- the value that takes the place of another, or leaves it
pub replaced : (k : ReductionKind) (t : DataType) (x y : State) (m n : ℕ) (v w : Leaf) (b : Bool) → merge k t (numbered_state m v) (numbered_state n w) ≡ (if b then numbered_state n w else numbered_state m v)
    → b ≡ true → x ≡ numbered_state m v → y ≡ numbered_state n w → merge k t x y ≡ numbered_state n w
replaced k t x y m n v w b e f p q = rw (p, q) (e ∙ ap (λ (b : Bool). if b then numbered_state n w else numbered_state m v) f)

pub left : (k : ReductionKind) (t : DataType) (x y : State) (m n : ℕ) (v w : Leaf) (b : Bool) → merge k t (numbered_state m v) (numbered_state n w) ≡ (if b then numbered_state n w else numbered_state m v)
    → b ≡ false → x ≡ numbered_state m v → y ≡ numbered_state n w → merge k t x y ≡ numbered_state m v
left k t x y m n v w b e f p q = rw (p, q) (e ∙ ap (λ (b : Bool). if b then numbered_state n w else numbered_state m v) f)

-- ---- values that enter

-- the state of one value
pub one_numbered : (k : ReductionKind) (t : DataType) (seq_id n : ℕ) (v : Leaf) → goes_by_number k ≡ true → seq_id ≡ n + 1 → one k t (record { number = n; value = v }) ≡ numbered_state seq_id v
one_numbered k t seq_id n v g e = ap (λ (s : State). s) (same k g) ∙ sym (ap (λ (i : ℕ). numbered_state i v) (e ∙ plus_one n))
  where
    plus_one : (n : ℕ) → n + 1 ≡ suc n
    plus_one n = omega arith

    same : (k : ReductionKind) → goes_by_number k ≡ true → one k t (record { number = n; value = v }) ≡ numbered_state (suc n) v
    same kinds.First g = refl
    same kinds.Last g = refl
    same kinds.Sum g = absurd (false≢true g)
    same kinds.Min g = absurd (false≢true g)
    same kinds.Max g = absurd (false≢true g)

not_above : (n : ℕ) → is_gt (nat_cmp n n) ≡ false
not_above n = above_is n n ∙ grind arith

first_stays : (t : DataType) (n : ℕ) (v : Leaf) (vs : List Leaf) → after kinds.First t (Some (record { number = n; value = v })) (numbered n vs) ≡ Some (record { number = n; value = v })
first_stays t n v [] = refl
first_stays t n v (w ∷ vs) =
    let stays : least_by by_number (record { number = n; value = v }) (record { number = n; value = w }) ≡ record { number = n; value = v } = rw (not_above n) refl in
    ap (λ (x : Entry). after kinds.First t (Some x) (numbered n vs)) stays ∙ first_stays t n v vs

last_moves : (t : DataType) (n : ℕ) (v : Leaf) (vs : List Leaf) → after kinds.Last t (Some (record { number = n; value = v })) (numbered n vs) ≡ Some (record { number = n; value = value_at (v ∷ vs) (length vs) })
last_moves t n v [] = refl
last_moves t n v (w ∷ vs) =
    let moves : least_by (flip_args by_number) (record { number = n; value = w }) (record { number = n; value = v }) ≡ record { number = n; value = w } = rw (not_above n) refl in
    ap (λ (x : Entry). after kinds.Last t (Some x) (numbered n vs)) moves ∙ last_moves t n w vs

all_numbered : (k : ReductionKind) (t : DataType) (n : ℕ) (vs : List Leaf) → goes_by_number k ≡ true → 0 < length vs
    → after k t None (numbered n vs) ≡ one k t (record { number = n; value = value_at vs (kept_place k (length vs)) })
all_numbered k t n [] g h = absurd (omega arith)
all_numbered kinds.First t n (v ∷ vs) g h = first_stays t n v vs
all_numbered kinds.Last t n (v ∷ vs) g h = last_moves t n v vs ∙ ap (λ (i : ℕ). Some (record { number = n; value = value_at (v ∷ vs) i })) (last_place (length vs))
  where
    last_place : (i : ℕ) → i ≡ suc i - 1
    last_place i = omega arith
all_numbered kinds.Sum t n vs g h = absurd (false≢true g)
all_numbered kinds.Min t n vs g h = absurd (false≢true g)
all_numbered kinds.Max t n vs g h = absurd (false≢true g)

-- of values that enter at once one is kept
pub after_numbered : (k : ReductionKind) (t : DataType) (n : ℕ) (x : State) (vs : List Leaf) → goes_by_number k ≡ true → 0 < length vs
    → after k t x (numbered n vs) ≡ merge k t x (one k t (record { number = n; value = value_at vs (kept_place k (length vs)) }))
after_numbered k t n x vs g h =
    let none : start k t ≡ None = start-plain k t (not_a_sum k g) in
    after-is k t x (numbered n vs) (IsState-plain k t x none)
    ∙ ap (merge k t x) (ap (λ (y : State). after k t y (numbered n vs)) none ∙ all_numbered k t n vs g h)

-- which is what a reducer does that takes this one alone
pub all_by_one : {V : Type 0} (stands : V → State → Type 0) (k : ReductionKind) (seq_id i : ℕ) (vs : List Leaf) (old new : V) → goes_by_number k ≡ true → 0 < length vs → i ≡ kept_place k (length vs)
    → TakesOne stands k seq_id (value_at vs i) old new → TakesAll stands k seq_id vs old new
unfolding TakesOne TakesAll
all_by_one stands k seq_id i vs old new g h e one_taken = λ t n x f s.
    let place : merge k t x (one k t (record { number = n; value = value_at vs i })) ≡ after k t x (numbered n vs) =
    ap (λ (j : ℕ). merge k t x (one k t (record { number = n; value = value_at vs j }))) e ∙ sym (after_numbered k t n x vs g h) in
    subst (stands new) place (one_taken t n x f s)

pub after_nothing : (k : ReductionKind) (t : DataType) (n : ℕ) (x : State) (vs : List Leaf) → length vs ≡ 0 → after k t x (numbered n vs) ≡ x
after_nothing k t n x [] h = refl
after_nothing k t n x (v ∷ vs) h = absurd (omega arith)

-- what a kept value gives
pub given_some : (n : ℕ) (v : Leaf) (e : Entry) → Some e ≡ numbered_state n v → out (numbered_state n v) ≡ e.value
given_some n v e h = sym (ap out h)

pub given_none : (n : ℕ) (v : Leaf) → None ≡ numbered_state n v → out (numbered_state n v) ≡ leaves.Null
given_none n v h = sym (ap out h)
