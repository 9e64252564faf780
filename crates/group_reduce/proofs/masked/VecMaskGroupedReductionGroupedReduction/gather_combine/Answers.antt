use Rattle.std.proofs.Common.{◌≡◌, ◌<◌, ◌≤◌, List, length, take, get_or, None, sym, subst, ap, ◌∙◌, arith}
use Rattle.std.proofs.lemmas.List.{length-map}
use Rattle.reduce_states.specs.States.{State, start, merge, one}
use Rattle.reduce_states.specs.Moves.{entered, ones, states_at}
use Rattle.reduce_states.specs.Reductions.{Enters, EntersFront, OnesOf, Gathered}
use Rattle.reduce_states.proofs.Moved.{length-ones, get_or-ones, get_or-states_at}
use Rattle.group_reduce.specs.Zips.{AllZip-length}
use Rattle.group_reduce.specs.Masked.{AreMasked}
use Rattle.group_reduce.proofs.Kept.{on_err}
use Rattle.group_reduce.proofs.Bits.{masked_next, masked_all, masked_kept}
use Rattle.group_reduce.proofs.masked.VecMaskGroupedReductionGroupedReduction.gather_combine.Goals as goal

pub loop-i-preserved : goal.loop-i-preserved
loop-i-preserved g c =
    let fn = c.args.self.now in
    let i = c.loop-i.i in
    let gs = c.args.group_idxs.now in
    let subset = c.args.subset.now in
    record {
      dtype = c.merge_at.ensures.dtype ∙ c.loop-i.invariant.dtype;
      long = c.merge_at.ensures.long ∙ c.loop-i.invariant.long;
      states = λ xs ys h o.
          let R = g.R.Reducer.stands in
          let k = g.R.Reducer.kind in
          let t = fn.in_dtype in
          let qs = states_at k t ys subset in
          let zs = entered (start k t) (merge k t) xs (take i gs) (take i qs) in
          let inside : i < length subset = omega (arith, c.requires.lengths) in
          masked_next R k t c.merge_at.new.self.values.items c.merge_at.new.self.mask xs gs qs i (get_or ys (get_or subset i 0) (start k t)) c.loop-i-test.true (omega (arith, length-map subset (λ q. get_or ys q (start k t)))) (sym (get_or-states_at k t ys subset i None inside))
          (c.in_ok-merge_at.ensures.ok t zs ys (c.loop-i.invariant.states xs ys h o) o);
    }

pub returns-in_err-merge_at-clause-err : goal.returns-in_err-merge_at-clause-err
unfolding EntersFront Gathered
returns-in_err-merge_at-clause-err g c = on_err c.from_residual.result (
  c.loop-i.i,
  c.loop-i-test.true,
  λ xs ys h w.
      let k = g.R.Reducer.kind in
      let t = c.args.self.now.in_dtype in
      let i = c.loop-i.i in
      let gs = c.args.group_idxs.now in
      masked_kept g.R.Reducer.stands c.loop-i.self.values.items c.merge_at.new.self.values.items c.loop-i.self.mask c.merge_at.new.self.mask (entered (start k t) (merge k t) xs (take i gs) (take i ys)) c.in_err-merge_at.ensures.err.0 c.in_err-merge_at.ensures.err.1
      (subst (λ (zs : List State). AreMasked g.R.Reducer.stands c.loop-i.self.values.items c.loop-i.self.mask (entered (start k t) (merge k t) xs (take i gs) (take i zs))) (sym w.2) (c.loop-i.invariant.states xs w.0 h w.1)),
)

pub returns-clause-ok : goal.returns-clause-ok
unfolding Enters Gathered
returns-clause-ok g c = λ xs ys h w.
    let k = g.R.Reducer.kind in
    let t = c.args.self.now.in_dtype in
    let i = c.loop-i.i in
    let gs = c.args.group_idxs.now in
    let done : length gs ≤ i = omega arith in
    let long : length ys ≤ i = omega (arith, ap length w.2, length-map c.args.subset.now (λ q. get_or w.0 q (start k t)), c.requires.lengths) in
    masked_all g.R.Reducer.stands k t c.loop-i.self.values.items c.loop-i.self.mask xs gs ys i done long
    (subst (λ (zs : List State). AreMasked g.R.Reducer.stands c.loop-i.self.values.items c.loop-i.self.mask (entered (start k t) (merge k t) xs (take i gs) (take i zs))) (sym w.2) (c.loop-i.invariant.states xs w.0 h w.1))
