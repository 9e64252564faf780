use Rattle.std.proofs.Common.{rules, ◌≡◌, ◌<◌, ◌≤◌, ℕ, true, List, length, take, get_or, None, sym, subst, ap, ◌∙◌, arith}
use Rattle.std.specs.List.{AllZip}
use Rattle.std.proofs.lemmas.List.{length-map, get_or_default}
use Rattle.std.proofs.lemmas.List.Elements.{All-set}
use Rattle.reduce_states.specs.States.{State, start, merge}
use Rattle.reduce_states.specs.Moves.{entered, states_at}
use Rattle.reduce_states.specs.Reductions.{Enters, EntersFront, Gathered}
use Rattle.reduce_states.proofs.Moved.{get_or-states_at}
use Rattle.group_reduce.specs.Reducing.{Merges}
use Rattle.group_reduce.proofs.Kept.{on_err, found, stayed, entered_next, entered_all}
use Rattle.group_reduce.proofs.entering.gather_values.Goals as goal

pub loop-i-preserved : goal.loop-i-preserved
unfolding Merges
loop-i-preserved g c =
    let fits = g.R.Reducer.fits in
    let t = c.args.dtype in
    let i = c.loop-i.i in
    let gs = c.args.group_idxs.now in
    let vs = c.loop-i.kept.items in
    let us = c.args.others.now in
    let p = get_or gs i 0 in
    let here : p < length vs = omega (arith, c.requires.places i 0 c.loop-i-test.true) in
    let inside : i < length c.args.subset.now = omega (arith, c.requires.lengths) in
    let from : get_or c.args.subset.now i 0 < length us = c.requires.from i 0 inside in
    let theirs_is : c.index-others-subset.result ≡ get_or us (get_or c.args.subset.now i 0) c.index-others-subset.result = c.index-others-subset.is ∙ get_or_default us (get_or c.args.subset.now i 0) _ c.index-others-subset.result from in
    record {
      long = search rules;
      fit = All-set (λ v. fits t v ≡ true) vs p c.combine.new.a
          (c.combine.ensures.fits t
          (subst (λ v. fits t v ≡ true) (sym c.index_mut.ensures.value) (c.loop-i.invariant.fit p c.index_mut.result.now here))
          (subst (λ v. fits t v ≡ true) (sym theirs_is) (c.requires.others_fit (get_or c.args.subset.now i 0) c.index-others-subset.result from)))
          c.loop-i.invariant.fit;
      states = λ xs ys h k.
          let R = g.R.Reducer.stands in
          let kind = g.R.Reducer.kind in
          let qs = states_at kind t ys c.args.subset.now in
          let zs = entered (start kind t) (merge kind t) xs (take i gs) (take i qs) in
          let long : i < length qs = omega (arith, length-map c.args.subset.now (λ (q : ℕ). get_or ys q (start kind t))) in
          let now : AllZip R vs zs = c.loop-i.invariant.states xs ys h k in
          let mine = found R vs zs p c.index_mut.result.now (start kind t) now here c.index_mut.ensures.value in
          let theirs = found R us ys (get_or c.args.subset.now i 0) c.index-others-subset.result (start kind t) k from theirs_is in
          entered_next R kind t vs xs gs qs i c.combine.new.a (get_or ys (get_or c.args.subset.now i 0) (start kind t)) now c.loop-i-test.true long (sym (get_or-states_at kind t ys c.args.subset.now i None inside))
          (c.in_ok-combine.ensures.ok t (get_or zs p (start kind t)) (get_or ys (get_or c.args.subset.now i 0) (start kind t)) mine theirs);
    }

pub returns-in_err-combine-clause-err : goal.returns-in_err-combine-clause-err
unfolding EntersFront Gathered
returns-in_err-combine-clause-err g c = on_err c.from_residual.result (
  c.loop-i.i,
  c.loop-i-test.true,
  λ xs ys h w.
      let R = g.R.Reducer.stands in
      let kind = g.R.Reducer.kind in
      let t = c.args.dtype in
      let i = c.loop-i.i in
      let gs = c.args.group_idxs.now in
      stayed R c.loop-i.kept.items (entered (start kind t) (merge kind t) xs (take i gs) (take i ys)) (get_or gs i 0) c.index_mut.result.now c.combine.new.a
      (subst (λ (qs : List State). AllZip R c.loop-i.kept.items (entered (start kind t) (merge kind t) xs (take i gs) (take i qs))) (sym w.2) (c.loop-i.invariant.states xs w.0 h w.1)) c.index_mut.ensures.value c.in_err-combine.ensures.err,
)

pub returns-clause-ok : goal.returns-clause-ok
unfolding Enters Gathered
returns-clause-ok g c = λ xs ys h w.
    let R = g.R.Reducer.stands in
    let kind = g.R.Reducer.kind in
    let t = c.args.dtype in
    let gs = c.args.group_idxs.now in
    let i = c.loop-i.i in
    let done : length gs ≤ i = omega arith in
    let long : length ys ≤ i = omega (arith, ap length w.2, length-map c.args.subset.now (λ (q : ℕ). get_or w.0 q (start kind t)), c.requires.lengths) in
    entered_all R kind t c.loop-i.kept.items xs gs ys i done long
    (subst (λ (qs : List State). AllZip R c.loop-i.kept.items (entered (start kind t) (merge kind t) xs (take i gs) (take i qs))) (sym w.2) (c.loop-i.invariant.states xs w.0 h w.1))
