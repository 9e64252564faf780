use Rattle.std.proofs.Common.{rules, ◌≡◌, ◌<◌, ◌≤◌, true, length, take, get_or, None, refl, sym, subst, ◌∙◌, arith}
use Rattle.std.specs.List.{AllZip}
use Rattle.std.proofs.lemmas.List.{get_or_default}
use Rattle.std.proofs.lemmas.List.Elements.{All-set}
use Rattle.reduce_states.specs.States.{start, merge}
use Rattle.reduce_states.specs.Moves.{entered}
use Rattle.reduce_states.specs.Reductions.{Enters, EntersFront}
use Rattle.group_reduce.specs.Reducing.{Merges}
use Rattle.group_reduce.specs.Zips.{AllZip-length}
use Rattle.group_reduce.proofs.Kept.{on_err, found, stayed, entered_next, entered_all}
use Rattle.group_reduce.proofs.entering.merge_values.Goals as goal

pub loop-i-preserved : goal.loop-i-preserved
unfolding Merges
loop-i-preserved g c =
    let fits = g.R.Reducer.fits in
    let t = c.args.dtype in
    let i = c.loop-i.i in
    let gs = c.args.group_idxs.now in
    let vs = c.loop-i.kept.items in
    let us = c.args.others.now in
    let p = get_or gs i 0 in
    let here : p < length vs = omega (arith, c.requires.places i 0 c.loop-i-test.true) in
    let inside : i < length us = omega (arith, c.requires.lengths) in
    let from : i < length us = inside in
    let theirs_is : c.index-others-i.result ≡ get_or us i c.index-others-i.result = c.index-others-i.is ∙ get_or_default us i _ c.index-others-i.result from in
    record {
      long = search rules;
      fit = All-set (λ v. fits t v ≡ true) vs p c.combine.new.a
          (c.combine.ensures.fits t
          (subst (λ v. fits t v ≡ true) (sym c.index_mut.ensures.value) (c.loop-i.invariant.fit p c.index_mut.result.now here))
          (subst (λ v. fits t v ≡ true) (sym theirs_is) (c.requires.others_fit (i) c.index-others-i.result from)))
          c.loop-i.invariant.fit;
      states = λ xs ys h k.
          let R = g.R.Reducer.stands in
          let kind = g.R.Reducer.kind in
          let qs = ys in
          let zs = entered (start kind t) (merge kind t) xs (take i gs) (take i qs) in
          let long : i < length qs = omega (arith, AllZip-length R us ys k) in
          let now : AllZip R vs zs = c.loop-i.invariant.states xs ys h k in
          let mine = found R vs zs p c.index_mut.result.now (start kind t) now here c.index_mut.ensures.value in
          let theirs = found R us ys (i) c.index-others-i.result None k from theirs_is in
          entered_next R kind t vs xs gs qs i c.combine.new.a (get_or ys (i) None) now c.loop-i-test.true long refl
          (c.in_ok-combine.ensures.ok t (get_or zs p (start kind t)) (get_or ys (i) None) mine theirs);
    }

pub returns-in_err-combine-clause-err : goal.returns-in_err-combine-clause-err
unfolding EntersFront
returns-in_err-combine-clause-err g c = on_err c.from_residual.result (
  c.loop-i.i,
  c.loop-i-test.true,
  λ xs ys h k.
      let kind = g.R.Reducer.kind in
      let t = c.args.dtype in
      stayed g.R.Reducer.stands c.loop-i.kept.items (entered (start kind t) (merge kind t) xs (take c.loop-i.i c.args.group_idxs.now) (take c.loop-i.i ys)) (get_or c.args.group_idxs.now c.loop-i.i 0) c.index_mut.result.now c.combine.new.a
      (c.loop-i.invariant.states xs ys h k) c.index_mut.ensures.value c.in_err-combine.ensures.err,
)

pub returns-clause-ok : goal.returns-clause-ok
unfolding Enters
returns-clause-ok g c = λ xs ys h k.
    let gs = c.args.group_idxs.now in
    let i = c.loop-i.i in
    let done : length gs ≤ i = omega arith in
    let long : length ys ≤ i = omega (arith, AllZip-length g.R.Reducer.stands c.args.others.now ys k, c.requires.lengths) in
    entered_all g.R.Reducer.stands g.R.Reducer.kind c.args.dtype c.loop-i.kept.items xs gs ys i done long (c.loop-i.invariant.states xs ys h k)
