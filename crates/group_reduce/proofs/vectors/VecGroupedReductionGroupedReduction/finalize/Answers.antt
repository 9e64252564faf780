use Rattle.std.proofs.Common.{Bool, true, length, refl, sym, subst, ◌∙◌}
use Rattle.std.specs.List.{AllZip, zip}
use Rattle.std.proofs.lemmas.List.{length-replicate}
use Rattle.group_parts.proofs.Places.{length-zip}
use Rattle.group_reduce.specs.Zips.{AllZip-length}
use Rattle.group_reduce.specs.Reducing.{AreFinished, IsFinished, all_shown}
use Rattle.group_reduce.proofs.Kept.{finished_plain, reduced_type-plain}
use Rattle.group_reduce.proofs.vectors.VecGroupedReductionGroupedReduction.finalize.Goals as goal

pub returns-clause-dtype : goal.returns-clause-dtype
returns-clause-dtype g c = c.in_ok-column.ensures.dtype ∙ sym (reduced_type-plain g.R.Reducer.kind c.args.self.now.in_dtype g.met.R.Reducer.plain)

pub returns-clause-rows : goal.returns-clause-rows
returns-clause-rows g c =
    let R = g.R.Reducer.stands in
    let vs = c.args.self.now.values.items in
    let ls = c.in_ok-column.column.values in
    let done = subst (λ us. AreFinished R g.R.Reducer.tells_none us (all_shown (length us)) ls) c.deref.ensures.value (c.in_ok-column.ensures.plain refl) in
    AllZip-length (IsFinished R g.R.Reducer.tells_none) (zip vs (all_shown (length vs))) ls done ∙ length-zip vs (all_shown (length vs)) (length-replicate (length vs) true)

pub returns-clause-ok : goal.returns-clause-ok
returns-clause-ok g c = λ xs h.
    let R = g.R.Reducer.stands in
    let vs = c.args.self.now.values.items in
    let ls = c.in_ok-column.column.values in
    let done = subst (λ us. AreFinished R g.R.Reducer.tells_none us (all_shown (length us)) ls) c.deref.ensures.value (c.in_ok-column.ensures.plain refl) in
    finished_plain R vs xs ls h (subst (λ (b : Bool). AllZip (IsFinished R b) (zip vs (all_shown (length vs))) ls) c.args.self.now.told done)
