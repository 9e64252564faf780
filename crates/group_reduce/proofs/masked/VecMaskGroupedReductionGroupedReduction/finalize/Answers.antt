use Rattle.std.proofs.Common.{length, refl, sym, subst, ◌∙◌}
use Rattle.std.specs.List.{AllZip, zip}
use Rattle.group_parts.proofs.Places.{length-zip}
use Rattle.group_reduce.specs.Zips.{AllZip-length}
use Rattle.group_reduce.specs.Reducing.{AreFinished, IsFinished}
use Rattle.group_reduce.proofs.Kept.{finished_masked, reduced_type-plain}
use Rattle.group_reduce.proofs.masked.VecMaskGroupedReductionGroupedReduction.finalize.Goals as goal

pub returns-clause-rows : goal.returns-clause-rows
returns-clause-rows g c =
    let R = g.R.Reducer.stands in
    let tells = g.R.Reducer.tells_none in
    let vs = c.args.self.now.values.items in
    let mask = c.args.self.now.mask in
    let ls = c.in_ok-column.column.values in
    let done = subst (λ us. AreFinished R tells us mask ls) c.deref.ensures.value (c.in_ok-column.ensures.masked _ refl) in
    AllZip-length (IsFinished R tells) (zip vs mask) ls done ∙ length-zip vs mask c.args.self.now.paired

pub returns-clause-ok : goal.returns-clause-ok
returns-clause-ok g c = λ xs h.
    let R = g.R.Reducer.stands in
    let tells = g.R.Reducer.tells_none in
    let vs = c.args.self.now.values.items in
    let mask = c.args.self.now.mask in
    let ls = c.in_ok-column.column.values in
    let done = subst (λ us. AreFinished R tells us mask ls) c.deref.ensures.value (c.in_ok-column.ensures.masked _ refl) in
    finished_masked R tells vs mask xs ls h.stand h.tell done
