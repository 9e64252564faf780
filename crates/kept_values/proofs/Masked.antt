-- Values of which bits hide some, one by one.
use Rattle.std.proofs.Common.{◌≡◌, Option, Some, None, MatchOption, Result, IfOk, ℕ, zero, suc, ◌+◌, ◌<◌, Bool, true, false, cond, List, [], ◌∷◌, ◌++◌, length, map, take, get_or, refl, sym, ap, subst, ◌∙◌, arith, add-one}
use Rattle.std.specs.List.{AllZip, zip}
use Rattle.std.specs.Option.{ForSome}
use Rattle.std.proofs.lemmas.List.{length-replicate}
use Rattle.std.proofs.lemmas.Result.{IfOk-weaker}
use Rattle.col_core.specs.declared.leaf.Leaf.{Leaf}
use Rattle.col_core.specs.declared.leaf.Leaf.TheVariants as leaves
use Rattle.reduce_states.specs.States.{Entry, State}
use Rattle.group_reduce.specs.Reducing.{IsFinished, all_shown}
use Rattle.kept_values.specs.Shown.{shown_values}

shown_suc : (vs : List Leaf) (bits : List Bool) (i : ℕ) → i < length vs → i < length bits
    → take (suc i) (shown_values vs bits) ≡ take i (shown_values vs bits) ++ cond (get_or bits i false) (get_or vs i leaves.Null) leaves.Null ∷ []
shown_suc [] bits i h l = absurd (omega arith)
shown_suc (v ∷ vs) [] i h l = absurd (omega arith)
shown_suc (v ∷ vs) (b ∷ bits) zero h l = refl
shown_suc (v ∷ vs) (b ∷ bits) (suc i) h l = ap (λ (xs : List Leaf). cond b v leaves.Null ∷ xs) (shown_suc vs bits i (omega arith) (omega arith))

-- one more value is shown or hidden
pub shown_more : (vs : List Leaf) (bits : List Bool) (i : ℕ) → i < length vs → i < length bits
    → take (i + 1) (shown_values vs bits) ≡ take i (shown_values vs bits) ++ cond (get_or bits i false) (get_or vs i leaves.Null) leaves.Null ∷ []
shown_more vs bits i h l = rw (add-one i) (shown_suc vs bits i h l)

pub length-shown : (vs : List Leaf) (bits : List Bool) → length bits ≡ length vs → length (shown_values vs bits) ≡ length vs
length-shown [] bits h = refl
length-shown (v ∷ vs) [] h = h
length-shown (v ∷ vs) (b ∷ bits) h = ap suc (length-shown vs bits (omega arith))

-- kept values that give what the states give for which they stand
pub finished : {V : Type 0} (stands : V → State → Type 0) (tells : Bool) (given : V → Leaf) (vs : List V) (bits : List Bool)
    → ((v : V) (e : Entry) → stands v (Some e) → given v ≡ e.value) → ((v : V) → tells ≡ true → stands v None → given v ≡ leaves.Null)
    → length bits ≡ length vs → AllZip (IsFinished stands tells) (zip vs bits) (shown_values (map given vs) bits)
finished stands tells given [] [] some none h = tt
finished stands tells given [] (b ∷ bits) some none h = tt
finished stands tells given (v ∷ vs) [] some none h = absurd (omega arith)
finished {V} stands tells given (v ∷ vs) (b ∷ bits) some none h = (
  record {
    hidden = λ e. ap (λ (c : Bool). cond c (given v) leaves.Null) e;
    kept = λ e entry s. ap (λ (c : Bool). cond c (given v) leaves.Null) e ∙ some v entry s;
    none = λ e t s. ap (λ (c : Bool). cond c (given v) leaves.Null) e ∙ none v t s;
  },
  finished stands tells given vs bits some none (omega arith),
)

-- a mask has a bit for each item, and so have the bits that it stands for
pub mask_length : {A : Type 0} (mask : Option A) (bits_of : A → List Bool) (bits : List Bool) (n : ℕ) → MatchOption mask (bits ≡ all_shown n) (λ m. bits ≡ bits_of m)
    → ForSome mask (λ m. length (bits_of m) ≡ n) → length bits ≡ n
mask_length None bits_of bits n m h = ap length m ∙ length-replicate n true
mask_length (Some a) bits_of bits n m h = ap length m ∙ h a refl

-- the bits that no mask stands for, and those of a mask
no_mask : {A : Type 0} (m : Option A) (now : A → List Bool) (n : ℕ) → m ≡ None → MatchOption m (all_shown n ≡ all_shown n) (λ a. all_shown n ≡ now a)
no_mask None now n h = refl
no_mask (Some a) now n h = absurd (cc)

one_mask : {A : Type 0} (m : Option A) (now : A → List Bool) (n : ℕ) (x : A) → m ≡ Some x → MatchOption m (now x ≡ all_shown n) (λ a. now x ≡ now a)
one_mask None now n x h = absurd (cc)
one_mask (Some a) now n x h = let same : a ≡ x = cc in sym (ap now same)

-- what a column must be that `finish` of a reducer gives
module _ {S E V A : Type 0} (values_of : S → List Leaf) (r : Result S E) (stands : V → State → Type 0) (tells : Bool) (given : V → Leaf) (vs : List V) (m : Option A) (now : A → List Bool)
    (some : (v : V) (e : Entry) → stands v (Some e) → given v ≡ e.value) (none : (v : V) → tells ≡ true → stands v None → given v ≡ leaves.Null)
    (values : (bits : List Bool) → MatchOption m (bits ≡ all_shown (length vs)) (λ a. bits ≡ now a) → IfOk r (λ s. values_of s ≡ shown_values (map given vs) bits)) where
  of_bits : (bits : List Bool) → length bits ≡ length vs → MatchOption m (bits ≡ all_shown (length vs)) (λ a. bits ≡ now a) → IfOk r (λ s. AllZip (IsFinished stands tells) (zip vs bits) (values_of s))
  of_bits bits long is = IfOk-weaker r (λ s. values_of s ≡ shown_values (map given vs) bits) (λ s. AllZip (IsFinished stands tells) (zip vs bits) (values_of s))
      (λ s e. subst (AllZip (IsFinished stands tells) (zip vs bits)) (sym e) (finished stands tells given vs bits some none long)) (values bits is)

  pub finished_plain : m ≡ None → IfOk r (λ s. AllZip (IsFinished stands tells) (zip vs (all_shown (length vs))) (values_of s))
  finished_plain h = of_bits (all_shown (length vs)) (length-replicate (length vs) true) (no_mask m now (length vs) h)

  pub finished_masked : ForSome m (λ a. length (now a) ≡ length vs) → (x : A) → m ≡ Some x → IfOk r (λ s. AllZip (IsFinished stands tells) (zip vs (now x)) (values_of s))
  finished_masked long x h = of_bits (now x) (long x h) (one_mask m now (length vs) x h)
