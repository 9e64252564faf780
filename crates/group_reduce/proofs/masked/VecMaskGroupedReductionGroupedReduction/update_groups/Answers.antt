use Rattle.std.proofs.Common.{◌≡◌, ◌<◌, ◌≤◌, List, length, take, get_or, None, sym, subst, ap, ◌∙◌, arith}
use Rattle.std.proofs.lemmas.List.{length-map}
use Rattle.reduce_states.specs.States.{State, start, merge, one}
use Rattle.reduce_states.specs.Moves.{entered, ones, states_at}
use Rattle.reduce_states.specs.Reductions.{Enters, EntersFront, OnesOf, Gathered}
use Rattle.reduce_states.proofs.Moved.{length-ones, get_or-ones, get_or-states_at}
use Rattle.group_reduce.specs.Zips.{AllZip-length}
use Rattle.group_reduce.specs.Masked.{AreMasked}
use Rattle.group_reduce.proofs.Kept.{on_err}
use Rattle.group_reduce.proofs.Bits.{masked_next, masked_all, masked_kept}
use Rattle.group_reduce.proofs.masked.VecMaskGroupedReductionGroupedReduction.update_groups.Goals as goal

pub loop-i-preserved : goal.loop-i-preserved
loop-i-preserved g c =
    let fn = c.args.self.now in
    let now = c.loop-i.self in
    let i = c.loop-i.i in
    let gs = c.args.group_idxs.now in
    let values = c.args.values.now.values in
    record {
      dtype = c.enter_at.ensures.dtype ∙ c.loop-i.invariant.dtype;
      long = c.enter_at.ensures.long ∙ c.loop-i.invariant.long;
      states = λ xs h.
          let R = g.R.Reducer.stands in
          let k = g.R.Reducer.kind in
          let t = fn.in_dtype in
          let ys = ones k t c.args.seq_id values in
          let zs = entered (start k t) (merge k t) xs (take i gs) (take i ys) in
          let inside : i < length values = omega (arith, c.requires.lengths) in
          masked_next R k t c.enter_at.new.self.values.items c.enter_at.new.self.mask xs gs ys i _ c.loop-i-test.true (omega (arith, length-ones k t c.args.seq_id values)) (sym (get_or-ones k t c.args.seq_id values i None inside))
          (c.in_ok-enter_at.ensures.ok t zs (c.loop-i.invariant.states xs h));
    }

pub returns-in_err-enter_at-clause-err : goal.returns-in_err-enter_at-clause-err
unfolding EntersFront OnesOf
returns-in_err-enter_at-clause-err g c = on_err c.from_residual.result (
  c.loop-i.i,
  c.loop-i-test.true,
  λ xs ys h e.
      let k = g.R.Reducer.kind in
      let t = c.args.self.now.in_dtype in
      let i = c.loop-i.i in
      let gs = c.args.group_idxs.now in
      masked_kept g.R.Reducer.stands c.loop-i.self.values.items c.enter_at.new.self.values.items c.loop-i.self.mask c.enter_at.new.self.mask (entered (start k t) (merge k t) xs (take i gs) (take i ys)) c.in_err-enter_at.ensures.err.0 c.in_err-enter_at.ensures.err.1
      (subst (λ (zs : List State). AreMasked g.R.Reducer.stands c.loop-i.self.values.items c.loop-i.self.mask (entered (start k t) (merge k t) xs (take i gs) (take i zs))) (sym e) (c.loop-i.invariant.states xs h)),
)

pub returns-clause-ok : goal.returns-clause-ok
unfolding Enters OnesOf
returns-clause-ok g c = λ xs ys h e.
    let k = g.R.Reducer.kind in
    let t = c.args.self.now.in_dtype in
    let i = c.loop-i.i in
    let gs = c.args.group_idxs.now in
    let values = c.args.values.now.values in
    let done : length gs ≤ i = omega arith in
    let long : length ys ≤ i = omega (arith, ap length e, length-ones k t c.args.seq_id values, c.requires.lengths) in
    masked_all g.R.Reducer.stands k t c.loop-i.self.values.items c.loop-i.self.mask xs gs ys i done long
    (subst (λ (zs : List State). AreMasked g.R.Reducer.stands c.loop-i.self.values.items c.loop-i.self.mask (entered (start k t) (merge k t) xs (take i gs) (take i zs))) (sym e) (c.loop-i.invariant.states xs h))
