-- Chunks that no cause keeps from making a column.
use Rattle.std.proofs.Common.{◌≡◌, ◌+◌, ◌<◌, ◌^◌, Bool, true, false, not, List, [], ◌∷◌, length, get_or, None, sym, subst, arith}
use Rattle.std.specs.List.{All, list_any}
use Rattle.std.proofs.lemmas.List.{length-append, get_or_append_left, get_or-append-add}
use Rattle.std.proofs.lemmas.List.Elements.{All-append, All-cons, All-nil, All-head, All-tail}
use Rattle.col_core.specs.declared.chunk.Chunk.{Chunk}
use Rattle.col_core.specs.declared.data_type.DataType.{DataType}
use Rattle.col_core.specs.declared.data_type.PhysicalType.{PhysicalType}
use Rattle.col_core.specs.Physical.{IsKept, physical_of, physical_eq}
use Rattle.col_core.specs.Values.{Fits, IsText, is_text}
use Rattle.col_core.specs.Refusals.{column_refusal}
use Rattle.col_core.specs.Tables.{chunk_leaves, chunk_physical, leaves_of, is_of_kind, AreChunksOf, IsWellKept, IsOfKind}
use Rattle.col_core.proofs.Leaves.{kept_fits}

-- none of some items fails a test
none_fails : {X : Type 0} (P : X → Type 0) (p : X → Bool) → ((x : X) → p x ≡ true → P x) → (xs : List X) → list_any (λ x. not (p x)) xs ≡ false → All P xs
none_fails P p holds [] h = All-nil P
none_fails P p holds (x ∷ xs) h =
    let here : p x ≡ true = grind arith in
    let after : list_any (λ y. not (p y)) xs ≡ false = grind arith in
    All-cons P x xs (holds x here) (none_fails P p holds xs after)

physical_eq_same : (a b : PhysicalType) → physical_eq a b ≡ true → a ≡ b
physical_eq_same a b h = grind arith

no_other_kind : (t : DataType) (cs : List Chunk) → column_refusal t cs ≡ None → list_any (λ chunk. not (is_of_kind t chunk)) cs ≡ false
no_other_kind t cs h = grind arith

no_bad_text : (t : DataType) (cs : List Chunk) → column_refusal t cs ≡ None → list_any (λ value. not (is_text t value)) (leaves_of cs) ≡ false
no_bad_text t cs h = grind arith

-- kept values that are texts where texts are wanted all fit
all_fit : (t : DataType) (cs : List Chunk) → All (IsOfKind t) cs → All IsWellKept cs → All (IsText t) (leaves_of cs) → All (Fits t) (leaves_of cs)
all_fit t [] kinds kept texts = All-nil (Fits t)
all_fit t (c ∷ cs) kinds kept texts =
    let xs = chunk_leaves c in
    let ys = leaves_of cs in
    let kind = All-head (IsOfKind t) c cs kinds in
    let here : All (IsKept (physical_of t)) xs = subst (λ (p : PhysicalType). All (IsKept p) xs) (sym kind) (All-head IsWellKept c cs kept) in
    let front : All (IsText t) xs = λ k d l. subst (IsText t) (get_or_append_left xs ys d k l) (texts k d (omega (arith, length-append xs ys))) in
    let back : All (IsText t) ys = λ k d l. subst (IsText t) (get_or-append-add xs ys k d) (texts (length xs + k) d (omega (arith, length-append xs ys))) in
    All-append (Fits t) xs ys (λ k d l. kept_fits t (get_or xs k d) (here k d l) (front k d l)) (all_fit t cs (All-tail (IsOfKind t) c cs kinds) (All-tail IsWellKept c cs kept) back)

-- chunks that no cause refuses
pub accepted_chunks : (t : DataType) (cs : List Chunk) → column_refusal t cs ≡ None → All IsWellKept cs → length (leaves_of cs) < 2 ^ 64 → AreChunksOf t cs
accepted_chunks t cs none kept small =
    let kinds : All (IsOfKind t) cs = none_fails (IsOfKind t) (is_of_kind t) (λ c e. physical_eq_same (physical_of t) (chunk_physical c) e) cs (no_other_kind t cs none) in
    record {
      kinds = kinds;
      fits = all_fit t cs kinds kept (none_fails (IsText t) (is_text t) (λ v e. e) (leaves_of cs) (no_bad_text t cs none));
      small = small;
    }

pub ruleset accepts = (accepted_chunks)
