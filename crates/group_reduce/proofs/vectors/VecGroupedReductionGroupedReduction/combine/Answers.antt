use Rattle.std.proofs.Common.{sym, subst, OnOk, OnErr}
use Rattle.std.specs.List.{AllZip}
use Rattle.reduce_states.specs.Reductions.{Enters, EntersFront}
use Rattle.group_reduce.specs.Reducing.{AllFit, of_kind}
use Rattle.group_reduce.proofs.vectors.VecGroupedReductionGroupedReduction.combine.Goals as goal

pub merge_values-requires-clause-others_fit : goal.merge_values-requires-clause-others_fit
merge_values-requires-clause-others_fit g c = subst (λ us. AllFit g.R.Reducer.fits c.args.self.now.in_dtype us) (sym c.deref.ensures.value)
    (subst (λ t. AllFit g.R.Reducer.fits t c.args.other.now.values.items) (sym c.requires.alike.1) c.args.other.now.fit)

pub returns-clause-ok : goal.returns-clause-ok
unfolding Enters
returns-clause-ok g c = subst (λ us. OnOk c.merge_values.result (Enters (of_kind g.R.Reducer.kind c.args.self.now.in_dtype) (AllZip g.R.Reducer.stands c.args.self.now.values.items) (AllZip g.R.Reducer.stands us) (AllZip g.R.Reducer.stands c.merge_values.new.kept.items) c.args.group_idxs.now)) c.deref.ensures.value c.merge_values.ensures.ok

pub returns-clause-err : goal.returns-clause-err
unfolding EntersFront
returns-clause-err g c = subst (λ us. OnErr c.merge_values.result (EntersFront (of_kind g.R.Reducer.kind c.args.self.now.in_dtype) (AllZip g.R.Reducer.stands c.args.self.now.values.items) (AllZip g.R.Reducer.stands us) (AllZip g.R.Reducer.stands c.merge_values.new.kept.items) c.args.group_idxs.now)) c.deref.ensures.value c.merge_values.ensures.err
