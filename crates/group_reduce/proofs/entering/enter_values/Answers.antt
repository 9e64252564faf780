use Rattle.std.proofs.Common.{rules, ◌≡◌, ◌<◌, ◌≤◌, true, List, length, take, get_or, None, refl, sym, subst, ap, arith}
use Rattle.std.specs.List.{AllZip}
use Rattle.std.proofs.lemmas.List.Elements.{All-set}
use Rattle.reduce_states.specs.States.{State, start, merge}
use Rattle.reduce_states.specs.Moves.{entered, ones}
use Rattle.reduce_states.specs.Reductions.{Enters, EntersFront, OnesOf}
use Rattle.reduce_states.proofs.Moved.{length-ones, get_or-ones}
use Rattle.group_reduce.specs.Reducing.{TakesOne}
use Rattle.group_reduce.proofs.Kept.{on_err, found, stayed, entered_next, entered_all}
use Rattle.group_reduce.proofs.entering.enter_values.Goals as goal

pub loop-i-preserved : goal.loop-i-preserved
unfolding TakesOne
loop-i-preserved g c =
    let fits = g.R.Reducer.fits in
    let i = c.loop-i.i in
    let gs = c.args.group_idxs.now in
    let vs = c.loop-i.kept.items in
    let p = get_or gs i 0 in
    let here : p < length vs = omega (arith, c.requires.places i 0 c.loop-i-test.true) in
    record {
      long = search rules;
      fit = All-set (λ v. fits c.args.values.now.dtype v ≡ true) vs p c.reduce_at.new.a
          (c.reduce_at.ensures.fits (subst (λ v. fits c.args.values.now.dtype v ≡ true) (sym c.index_mut.ensures.value) (c.loop-i.invariant.fit p c.index_mut.result.now here)))
          c.loop-i.invariant.fit;
      states = λ t xs h.
          let R = g.R.Reducer.stands in
          let k = g.R.Reducer.kind in
          let ys = ones k t c.args.seq_id c.args.values.now.values in
          let zs = entered (start k t) (merge k t) xs (take i gs) (take i ys) in
          let inside : i < length c.args.values.now.values = omega (arith, c.requires.lengths) in
          let long : i < length ys = omega (arith, length-ones k t c.args.seq_id c.args.values.now.values) in
          let now : AllZip R vs zs = c.loop-i.invariant.states t xs h in
          let mine = found R vs zs p c.index_mut.result.now (start k t) now here c.index_mut.ensures.value in
          entered_next R k t vs xs gs ys i c.reduce_at.new.a _ now c.loop-i-test.true long (sym (get_or-ones k t c.args.seq_id c.args.values.now.values i None inside))
          (c.in_ok-reduce_at.ensures.ok t c.args.seq_id (get_or zs p (start k t)) refl mine);
    }

pub returns-in_err-reduce_at-clause-err : goal.returns-in_err-reduce_at-clause-err
unfolding EntersFront OnesOf
returns-in_err-reduce_at-clause-err g c = on_err c.from_residual.result (λ t. (
  c.loop-i.i,
  c.loop-i-test.true,
  λ xs ys h k.
      let R = g.R.Reducer.stands in
      let kind = g.R.Reducer.kind in
      let i = c.loop-i.i in
      let gs = c.args.group_idxs.now in
      let now = c.loop-i.invariant.states t xs h in
      stayed R c.loop-i.kept.items (entered (start kind t) (merge kind t) xs (take i gs) (take i ys)) (get_or gs i 0) c.index_mut.result.now c.reduce_at.new.a
      (subst (λ (zs : List State). AllZip R c.loop-i.kept.items (entered (start kind t) (merge kind t) xs (take i gs) (take i zs))) (sym k) now) c.index_mut.ensures.value c.in_err-reduce_at.ensures.err,
))

pub returns-clause-ok : goal.returns-clause-ok
unfolding Enters OnesOf
returns-clause-ok g c = λ t xs ys h k.
    let R = g.R.Reducer.stands in
    let kind = g.R.Reducer.kind in
    let gs = c.args.group_idxs.now in
    let i = c.loop-i.i in
    let done : length gs ≤ i = omega arith in
    let long : length ys ≤ i = omega (arith, ap length k, length-ones kind t c.args.seq_id c.args.values.now.values, c.requires.lengths) in
    entered_all R kind t c.loop-i.kept.items xs gs ys i done long
    (subst (λ (zs : List State). AllZip R c.loop-i.kept.items (entered (start kind t) (merge kind t) xs (take i gs) (take i zs))) (sym k) (c.loop-i.invariant.states t xs h))
