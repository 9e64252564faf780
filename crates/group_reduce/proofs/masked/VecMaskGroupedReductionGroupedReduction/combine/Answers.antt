use Rattle.std.proofs.Common.{◌≡◌, ◌<◌, ◌≤◌, List, length, take, get_or, None, sym, subst, ap, ◌∙◌, arith}
use Rattle.std.proofs.lemmas.List.{get_or_default}
use Rattle.reduce_states.specs.States.{State, start, merge, one}
use Rattle.reduce_states.specs.Moves.{entered, ones, states_at}
use Rattle.reduce_states.specs.Reductions.{Enters, EntersFront, OnesOf, Gathered}
use Rattle.reduce_states.proofs.Moved.{length-ones, get_or-ones, get_or-states_at}
use Rattle.group_reduce.specs.Zips.{AllZip-length}
use Rattle.group_reduce.specs.Masked.{AreMasked}
use Rattle.group_reduce.proofs.Kept.{on_err}
use Rattle.group_reduce.proofs.Bits.{masked_next, masked_all, masked_kept}
use Rattle.group_reduce.proofs.masked.VecMaskGroupedReductionGroupedReduction.combine.Goals as goal

pub loop-i-preserved : goal.loop-i-preserved
loop-i-preserved g c =
    let fn = c.args.self.now in
    let i = c.loop-i.i in
    let gs = c.args.group_idxs.now in
    record {
      dtype = c.merge_at.ensures.dtype ∙ c.loop-i.invariant.dtype;
      long = c.merge_at.ensures.long ∙ c.loop-i.invariant.long;
      states = λ xs ys h o.
          let R = g.R.Reducer.stands in
          let k = g.R.Reducer.kind in
          let t = fn.in_dtype in
          let zs = entered (start k t) (merge k t) xs (take i gs) (take i ys) in
          let inside : i < length ys = omega (arith, AllZip-length R c.args.other.now.values.items ys o.stand, c.requires.lengths) in
          masked_next R k t c.merge_at.new.self.values.items c.merge_at.new.self.mask xs gs ys i (get_or ys i (start k t)) c.loop-i-test.true inside (get_or_default ys i (start k t) None inside)
          (c.in_ok-merge_at.ensures.ok t zs ys (c.loop-i.invariant.states xs ys h o) o);
    }

pub returns-in_err-merge_at-clause-err : goal.returns-in_err-merge_at-clause-err
unfolding EntersFront
returns-in_err-merge_at-clause-err g c = on_err c.from_residual.result (
  c.loop-i.i,
  c.loop-i-test.true,
  λ xs ys h o.
      let k = g.R.Reducer.kind in
      let t = c.args.self.now.in_dtype in
      let i = c.loop-i.i in
      let gs = c.args.group_idxs.now in
      masked_kept g.R.Reducer.stands c.loop-i.self.values.items c.merge_at.new.self.values.items c.loop-i.self.mask c.merge_at.new.self.mask (entered (start k t) (merge k t) xs (take i gs) (take i ys)) c.in_err-merge_at.ensures.err.0 c.in_err-merge_at.ensures.err.1
      (c.loop-i.invariant.states xs ys h o),
)

pub returns-clause-ok : goal.returns-clause-ok
unfolding Enters
returns-clause-ok g c = λ xs ys h o.
    let k = g.R.Reducer.kind in
    let t = c.args.self.now.in_dtype in
    let i = c.loop-i.i in
    let gs = c.args.group_idxs.now in
    let done : length gs ≤ i = omega arith in
    let long : length ys ≤ i = omega (arith, AllZip-length g.R.Reducer.stands c.args.other.now.values.items ys o.stand, c.requires.lengths) in
    masked_all g.R.Reducer.stands k t c.loop-i.self.values.items c.loop-i.self.mask xs gs ys i done long (c.loop-i.invariant.states xs ys h o)
