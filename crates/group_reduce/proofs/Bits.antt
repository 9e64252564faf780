-- Kept values with their bits, as values and states enter.
use Rattle.std.proofs.Common.{◌≡◌, ℕ, zero, suc, ◌+◌, ◌-◌, ◌<◌, ◌≤◌, ltb, nat_lt, Bool, true, false, not, ◌||◌, cond, List, [], ◌∷◌, ◌++◌, length, take, get_or, replicate, Some, None, is_some, count_by, refl, sym, ap, ap₂, subst, ◌∙◌, inl, inr, arith}
use Rattle.std.proofs.Math.ListN.{set}
use Rattle.std.specs.List.{AllZip, list_any}
use Rattle.std.proofs.lemmas.Bool.{cases_Bool, cases_lt, false≢true, lt-ltb, le-ltb, or_right}
use Rattle.std.proofs.lemmas.List.{set-get_or, take_all}
use Rattle.std.proofs.lemmas.List.Sums.{count_by-le-length}
use Rattle.std.proofs.lemmas.List.Recursion.{is_count_by}
use Rattle.col_core.specs.declared.leaf.Leaf.{Leaf}
use Rattle.col_core.specs.declared.leaf.Leaf.TheVariants as leaves
use Rattle.col_core.specs.declared.data_type.DataType.{DataType}
use Rattle.col_core.specs.Values.{is_null}
use Rattle.reduce_model.specs.declared.kind.ReductionKind.{ReductionKind}
use Rattle.reduce_model.specs.declared.kind.ReductionKind.TheVariants as kinds
use Rattle.reduce_states.specs.States.{Entry, State, start, one, merge, join, after}
use Rattle.reduce_states.specs.Moves.{cut_or_filled, entered, numbered}
use Rattle.reduce_states.proofs.Merged.{merge-none}
use Rattle.reduce_states.proofs.Moved.{entered_more}
use Rattle.group_reduce.specs.Zips.{AllZip-length}
use Rattle.group_reduce.specs.Masked.{AreMasked, skips_nulls}
use Rattle.group_parts.specs.Parts.{dealt}
use Rattle.group_reduce.proofs.Kept.{AllZip-get_or, AllZip-set, AllZip-take, AllZip-dealt}

or_none : (b : Bool) → (b || false) ≡ b
or_none true = refl
or_none false = refl

or_assoc : (a b c : Bool) → ((a || b) || c) ≡ (a || (b || c))
or_assoc true b c = refl
or_assoc false b c = refl

join-some : (k : ReductionKind) (t : DataType) (a b : Entry) → is_some (join k t a b) ≡ true
join-some kinds.Sum t a b = refl
join-some kinds.Min t a b = refl
join-some kinds.Max t a b = refl
join-some kinds.First t a b = refl
join-some kinds.Last t a b = refl

-- two states make something where one of them is something
pub is_some-merge : (k : ReductionKind) (t : DataType) (x y : State) → is_some (merge k t x y) ≡ (is_some x || is_some y)
is_some-merge k t None y = refl
is_some-merge k t (Some a) None = refl
is_some-merge k t (Some a) (Some b) = join-some k t a b

-- a null makes nothing, and any other value something
pub is_some-one : (k : ReductionKind) (t : DataType) (n : ℕ) (v : Leaf) → skips_nulls k ≡ true → is_some (one k t (record { number = n; value = v })) ≡ not (is_null v)
is_some-one kinds.Sum t n v s = absurd (false≢true s)
is_some-one kinds.Min t n leaves.Null s = refl
is_some-one kinds.Min t n (leaves.Bool b) s = refl
is_some-one kinds.Min t n (leaves.Whole z) s = refl
is_some-one kinds.Min t n (leaves.Bytes b) s = refl
is_some-one kinds.Max t n leaves.Null s = refl
is_some-one kinds.Max t n (leaves.Bool b) s = refl
is_some-one kinds.Max t n (leaves.Whole z) s = refl
is_some-one kinds.Max t n (leaves.Bytes b) s = refl
is_some-one kinds.First t n v s = absurd (false≢true s)
is_some-one kinds.Last t n v s = absurd (false≢true s)

nothing : (x : State) → is_some x ≡ false → x ≡ None
nothing None e = refl
nothing (Some a) e = absurd (false≢true (sym e))

pub is_some-after : (k : ReductionKind) (t : DataType) (n : ℕ) (x : State) (values : List Leaf) → skips_nulls k ≡ true → is_some (after k t x (numbered n values)) ≡ (is_some x || list_any (λ v. not (is_null v)) values)
is_some-after k t n x [] s = sym (or_none (is_some x))
is_some-after k t n x (v ∷ values) s =
    let more = one k t (record { number = n; value = v }) in
    let rest = list_any (λ v. not (is_null v)) values in
    is_some-after k t n (merge k t x more) values s
    ∙ ap (λ (b : Bool). b || rest) (is_some-merge k t x more ∙ ap (λ (b : Bool). is_some x || b) (is_some-one k t n v s))
    ∙ or_assoc (is_some x) (not (is_null v)) rest

one_more : (c n : ℕ) → nat_lt (1 + c) (suc n) ≡ nat_lt c n
one_more c n = elim (cases_lt c n) [
  | inl below ↦ lt-ltb (1 + c) (suc n) (omega arith) ∙ sym (lt-ltb c n below)
  | inr above ↦ le-ltb (1 + c) (suc n) (omega arith) ∙ sym (le-ltb c n above)
]

-- how many pass
abbrev tally : {X : Type 0} → (X → Bool) → List X → ℕ
tally p [] = 0
tally p (x ∷ xs) = cond (p x) (1 + tally p xs) (tally p xs)

tally_is : {X : Type 0} (p : X → Bool) (xs : List X) → tally p xs ≡ count_by p xs
tally_is p xs = is_count_by (tally p) p refl (λ x xs. refl) xs

tally_below : {X : Type 0} (p : X → Bool) (xs : List X) → nat_lt (tally p xs) (length xs) ≡ list_any (λ x. not (p x)) xs
tally_below p [] = refl
tally_below p (x ∷ xs) = elim (cases_Bool (p x)) [
  | inl passes ↦ rw passes (one_more (tally p xs) (length xs) ∙ tally_below p xs)
  | inr fails ↦ rw fails (lt-ltb (tally p xs) (suc (length xs)) (omega (arith, tally_is p xs, count_by-le-length p xs)))
]

-- fewer pass than there are where some does not
pub some_fails : {X : Type 0} (p : X → Bool) (xs : List X) → nat_lt (count_by p xs) (length xs) ≡ list_any (λ x. not (p x)) xs
some_fails p xs = ap (λ (n : ℕ). nat_lt n (length xs)) (sym (tally_is p xs)) ∙ tally_below p xs

-- ---- bits that tell of states

abbrev pub Tell : List Bool → List State → Type 0
Tell bits xs = AllZip (λ b x. b ≡ is_some x) bits xs

tell_append : (bs cs : List Bool) (ys zs : List State) → Tell bs ys → Tell cs zs → Tell (bs ++ cs) (ys ++ zs)
tell_append [] cs [] zs h k = k
tell_append [] cs (y ∷ ys) zs h k = absurd h
tell_append (b ∷ bs) cs [] zs h k = absurd h
tell_append (b ∷ bs) cs (y ∷ ys) zs h k = (h.0, tell_append bs cs ys zs h.1 k)

tell_nothing : (m : ℕ) (x : State) → x ≡ None → Tell (replicate m false) (replicate m x)
tell_nothing zero x none = tt
tell_nothing (suc m) x none = (sym (ap (λ (y : State). is_some y) none), tell_nothing m x none)

tell_resized : (bs : List Bool) (ys : List State) (n : ℕ) (x : State) → x ≡ None → Tell bs ys → Tell (cut_or_filled false bs n) (cut_or_filled x ys n)
tell_resized bs ys n x none h =
    let same = ap (λ (l : ℕ). n - l) (sym (AllZip-length (λ b x. b ≡ is_some x) bs ys h)) in
    tell_append (take n bs) (replicate (n - length bs) false) (take n ys) (replicate (n - length ys) x)
    (AllZip-take (λ b x. b ≡ is_some x) n bs ys h)
    (subst (λ (m : ℕ). Tell (replicate (n - length bs) false) (replicate m x)) same (tell_nothing (n - length bs) x none))

module _ {V : Type 0} (R : V → State → Type 0) where
  -- a kept value and its bit are written
  pub masked_set : (vs : List V) (bits : List Bool) (xs : List State) (g : ℕ) (w : V) (bit : Bool) (s : State) → AreMasked R vs bits xs → R w s → bit ≡ is_some s → AreMasked R (set vs g w) (set bits g bit) (set xs g s)
  masked_set vs bits xs g w bit s h r e = record {
    stand = AllZip-set R vs xs g w s h.stand r;
    tell = AllZip-set (λ b x. b ≡ is_some x) bits xs g bit s h.tell e;
  }

  -- the bit of a group
  pub bit_at : (vs : List V) (bits : List Bool) (xs : List State) (g : ℕ) (d : State) → AreMasked R vs bits xs → g < length bits → get_or bits g false ≡ is_some (get_or xs g d)
  bit_at vs bits xs g d h lt = AllZip-get_or (λ b x. b ≡ is_some x) bits xs g false d h.tell lt

  -- where nothing enters, nothing changes
  pub masked_same : (k : ReductionKind) (t : DataType) (vs : List V) (bits : List Bool) (xs : List State) (g : ℕ) (s : State) → AreMasked R vs bits xs → g < length vs → is_some s ≡ false → AreMasked R vs bits (set xs g (merge k t (get_or xs g (start k t)) s))
  masked_same k t vs bits xs g s h lt none =
      let d = start k t in
      let long : g < length xs = omega (arith, AllZip-length R vs xs h.stand) in
      let same : set xs g (merge k t (get_or xs g d) s) ≡ xs =
      ap (set xs g) (ap (merge k t (get_or xs g d)) (nothing s none) ∙ merge-none k t (get_or xs g d)) ∙ set-get_or xs g d in
      subst (AreMasked R vs bits) (sym same) h

  -- cut, or filled up
  pub masked_resized : (k : ReductionKind) (t : DataType) (vs ws : List V) (bits : List Bool) (xs : List State) (n : ℕ) → start k t ≡ None → AllZip R ws (cut_or_filled (start k t) xs n) → AllZip (λ b x. b ≡ is_some x) bits xs → AreMasked R ws (cut_or_filled false bits n) (cut_or_filled (start k t) xs n)
  masked_resized k t vs ws bits xs n none stand tell = record {
    stand = stand;
    tell = tell_resized bits xs n (start k t) none tell;
  }

  -- one more state has entered
  pub masked_next : (k : ReductionKind) (t : DataType) (vs : List V) (bits : List Bool) (xs : List State) (gs : List ℕ) (ys : List State) (i : ℕ) (y : State) → i < length gs → i < length ys → y ≡ get_or ys i None
      → AreMasked R vs bits (set (entered (start k t) (merge k t) xs (take i gs) (take i ys)) (get_or gs i 0) (merge k t (get_or (entered (start k t) (merge k t) xs (take i gs) (take i ys)) (get_or gs i 0) (start k t)) y))
      → AreMasked R vs bits (entered (start k t) (merge k t) xs (take (i + 1) gs) (take (i + 1) ys))
  masked_next k t vs bits xs gs ys i y p q e h =
      let zs = entered (start k t) (merge k t) xs (take i gs) (take i ys) in
      let g = get_or gs i 0 in
      subst (AreMasked R vs bits) (ap (λ (s : State). set zs g (merge k t (get_or zs g (start k t)) s)) e ∙ sym (entered_more (start k t) (merge k t) xs gs ys i None p q)) h

  -- all have entered
  pub masked_all : (k : ReductionKind) (t : DataType) (vs : List V) (bits : List Bool) (xs : List State) (gs : List ℕ) (ys : List State) (i : ℕ) → length gs ≤ i → length ys ≤ i
      → AreMasked R vs bits (entered (start k t) (merge k t) xs (take i gs) (take i ys)) → AreMasked R vs bits (entered (start k t) (merge k t) xs gs ys)
  masked_all k t vs bits xs gs ys i p q h = subst (AreMasked R vs bits)
      (ap (λ (hs : List ℕ). entered (start k t) (merge k t) xs hs (take i ys)) (take_all i gs p) ∙ ap (entered (start k t) (merge k t) xs gs) (take_all i ys q)) h

  -- a part of all groups
  pub masked_dealt : (vs ws : List V) (mask bits new : List Bool) (xs : List State) (p : ℕ) (is : List ℕ) → AreMasked R vs mask xs → bits ≡ mask → ws ≡ dealt p is vs → new ≡ dealt p is bits → AreMasked R ws new (dealt p is xs)
  masked_dealt vs ws mask bits new xs p is h same ew en = record {
    stand = subst (λ (us : List V). AllZip R us (dealt p is xs)) (sym ew) (AllZip-dealt R p is vs xs h.stand);
    tell = subst (λ (cs : List Bool). Tell cs (dealt p is xs)) (sym (en ∙ ap (dealt p is) same)) (AllZip-dealt (λ b x. b ≡ is_some x) p is mask xs h.tell);
  }

  -- where nothing changed
  pub masked_kept : (vs ws : List V) (bits new : List Bool) (xs : List State) → ws ≡ vs → new ≡ bits → AreMasked R vs bits xs → AreMasked R ws new xs
  masked_kept vs ws bits new xs ew en h = record {
    stand = subst (λ (us : List V). AllZip R us xs) (sym ew) h.stand;
    tell = subst (λ (cs : List Bool). Tell cs xs) (sym en) h.tell;
  }
