-- What holds where a call went well, and of a result whose error has been mapped.
use Rattle.std.proofs.Common.{◌≡◌, ℕ, Ok, Err, List, sym, ap, ◌∙◌, subst, refl}
use Rattle.std.specs.Prelude.{IsErrAnd, MatchResult, OnOk, Result}
use Rattle.list_laws.specs.Places.{ChangedAt}

module _ {T E D : Type 0} (post : E → D → Type 0) (after : Result T D) where
  -- a value was there before
  pub mapped_ok : (before : Result T E) (x : T) → MatchResult before (λ y. after ≡ Ok y) (λ e. IsErrAnd after (post e)) → after ≡ Ok x → before ≡ Ok x
  mapped_ok (Ok y) x m is =
      let both : ◌≡◌ {A = Result T D} (Ok y) (Ok x) = sym m ∙ is in
      let same : y ≡ x = cc both in
      ap (λ (v : T). Ok v) same
  mapped_ok (Err e) x m is = absurd (subst (λ (r : Result T D). IsErrAnd r (post e)) is m)

  -- an error is that of one
  pub mapped_err : (before : Result T E) (d : D) → MatchResult before (λ y. after ≡ Ok y) (λ e. IsErrAnd after (post e)) → after ≡ Err d → (e : E) × (before ≡ Err e) × post e d
  mapped_err (Ok y) d m is = let no : ◌≡◌ {A = Result T D} (Ok y) (Err d) = sym m ∙ is in cc no
  mapped_err (Err e) d m is = (e, refl, subst (λ (r : Result T D). IsErrAnd r (post e)) is m)

-- what holds of a call that went well
pub went_well : {T E P : Type 0} (r : Result T E) (x : T) → r ≡ Ok x → OnOk r P → P
went_well {P = P} r x is h = subst (λ r. OnOk r P) is h

-- and of what it changed
pub changed_well : {X T E : Type 0} (P : X → X → Type 0) (i : ℕ) (xs ys : List X) (r : Result T E) (x : T) → r ≡ Ok x → ChangedAt (λ l m. OnOk r (P l m)) i xs ys → ChangedAt P i xs ys
changed_well P i xs ys r x is h = subst (λ r. ChangedAt (λ l m. OnOk r (P l m)) i xs ys) is h
