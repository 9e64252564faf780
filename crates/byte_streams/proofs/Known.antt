-- Known bytes that grow at the end or are taken from the front, piece by piece.
use Rattle.std.proofs.Common.{◌≡◌, ℕ, ◌+◌, List, [], ◌++◌, take, drop, Option, Some, None, refl, ap, sym, ◌∙◌, append_assoc}
use Rattle.std.proofs.lemmas.List.{append-nil}
use Rattle.std.proofs.Math.Seq.{take-add}
use Rattle.std.specs.Io.KnownBytes.{prepend_known, append_known}

pub append_known-nil : (known : Option (List ℕ)) → append_known known [] ≡ known
append_known-nil None = refl
append_known-nil (Some xs) = ap Some (append-nil xs)

pub append_known-append : (known : Option (List ℕ)) (a b : List ℕ) → append_known (append_known known a) b ≡ append_known known (a ++ b)
append_known-append None a b = refl
append_known-append (Some xs) a b = ap Some (append_assoc xs a b)

pub prepend_known-nil : (known : Option (List ℕ)) → prepend_known [] known ≡ known
prepend_known-nil None = refl
prepend_known-nil (Some xs) = refl

pub prepend_known-append : (a b : List ℕ) (known : Option (List ℕ)) → prepend_known a (prepend_known b known) ≡ prepend_known (a ++ b) known
prepend_known-append a b None = refl
prepend_known-append a b (Some xs) = ap Some (sym (append_assoc a b xs))

-- after the first w bytes the next n are written
pub grown_more : (before mid now : Option (List ℕ)) (bytes : List ℕ) (w n : ℕ)
    → mid ≡ append_known before (take w bytes) → now ≡ append_known mid (take n (drop w bytes)) → now ≡ append_known before (take (w + n) bytes)
grown_more before mid now bytes w n first next =
    next ∙ (ap (λ known. append_known known (take n (drop w bytes))) first
    ∙ (append_known-append before (take w bytes) (take n (drop w bytes)) ∙ ap (append_known before) (sym (take-add w n bytes))))

-- after the taken bytes a further piece is taken
pub taken_more : (before mid now : Option (List ℕ)) (taken piece : List ℕ)
    → before ≡ prepend_known taken mid → mid ≡ prepend_known piece now → before ≡ prepend_known (taken ++ piece) now
taken_more before mid now taken piece first next = first ∙ (ap (prepend_known taken) next ∙ prepend_known-append taken piece now)
