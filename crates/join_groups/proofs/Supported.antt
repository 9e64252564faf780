-- Each reduction of a query that is not refused is one that there is.
use Rattle.std.proofs.Common.{◌≡◌, Bool, false, zero, suc, List, [], ◌∷◌, None, arith}
use Rattle.std.specs.List.{All, list_any}
use Rattle.list_laws.proofs.Halves.{neither}
use Rattle.reduce_model.specs.Folds.{is_unsupported}
use Rattle.join_query.specs.declared.query.Query.{Query}
use Rattle.join_query.specs.declared.query.Reduction.{Reduction}
use Rattle.join_model.specs.ColumnRefs.{ref_type}
use Rattle.join_model.specs.Refusals.{unsupported_reduction}
use Rattle.join_groups.proofs.Known.{none_passes}

-- of no item a test holds: it holds of none
none_at : {X : Type 0} (p : X → Bool) (xs : List X) → list_any p xs ≡ false → All (λ x. p x ≡ false) xs
none_at p [] h k d l = absurd (omega arith)
none_at p (x ∷ xs) h zero d l = (neither (p x) (list_any p xs) h).0
none_at p (x ∷ xs) h (suc k) d l = none_at p xs (neither (p x) (list_any p xs) h).1 k d (omega arith)

pub each_supported : (q : Query) → unsupported_reduction q ≡ None → All (λ (r : Reduction). is_unsupported r.kind (ref_type q r.column) ≡ false) q.reductions
each_supported q h =
    let unsupported = λ (r : Reduction). is_unsupported r.kind (ref_type q r.column) in
    none_at unsupported q.reductions (none_passes unsupported q.reductions h)
