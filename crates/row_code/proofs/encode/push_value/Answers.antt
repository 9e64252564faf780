use Rattle.std.proofs.Common.{◌≡◌, ◌∙◌, ◌++◌, [], ◌∷◌, ℕ, List, ap, sym, append_assoc, rules}
use Rattle.std.specs.Prelude.{ℤ, FitsSigned}
use Rattle.std.specs.Int.{w128}
use Rattle.std.proofs.lemmas.Int.{to_z-of_z}
use Rattle.col_core.specs.declared.leaf.LeafRef.{LeafRef}
use Rattle.col_core.specs.Lent.{lent_leaf}
use Rattle.col_core.specs.Physical.{physical_of}
use Rattle.row_code.specs.Spelling.{spelling, whole_bytes, width_of}
use Rattle.row_code.proofs.encode.push_value.Goals as goal

pub returns-in_ok-push_whole-in-Whole-clause-ok : goal.returns-in_ok-push_whole-in-Whole-clause-ok
returns-in_ok-push_whole-in-Whole-clause-ok c =
    let old = c.args.out.now.items in
    let more = whole_bytes (width_of (physical_of c.args.dtype)) c.in-Whole.z in
    let fits : FitsSigned w128 c.in-Whole.z = search rules in
    c.in_ok-push_whole-in-Whole.ensures
    ∙ ap (λ (z : ℤ). c.push-in-Whole.new.self.items ++ whole_bytes (width_of (physical_of c.args.dtype)) z) (to_z-of_z w128 c.in-Whole.z fits)
    ∙ ap (λ (bs : List ℕ). bs ++ more) c.in_ok-push-in-Whole.ensures.items
    ∙ append_assoc old (1 ∷ []) more
    ∙ ap (λ (v : LeafRef). old ++ spelling c.args.dtype (lent_leaf v)) (sym c.in-Whole.is)
