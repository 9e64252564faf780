use Rattle.std.proofs.Common.{rules, ◌≡◌, ◌≤◌, ◌+◌, ◌∷◌, ◌++◌, [], ℕ, true, length, refl, sym, subst, ap, ◌∙◌, arith}
use Rattle.std.proofs.lemmas.List.{length_push}
use Rattle.std.proofs.lemmas.List.Elements.{All-push}
use Rattle.reduce_states.specs.States.{State, start}
use Rattle.reduce_states.specs.Moves.{cut_or_filled}
use Rattle.reduce_states.proofs.Merged.{start-plain}
use Rattle.reduce_states.proofs.Moved.{cut_or_filled-same, cut_or_filled-more}
use Rattle.group_reduce.specs.Reducing.{AllFit}
use Rattle.group_reduce.specs.Zips.{AllZip-length}
use Rattle.group_reduce.proofs.Kept.{AllZip-push}
use Rattle.group_reduce.proofs.entering.fill_values.Goals as goal

pub loop-i-init : goal.loop-i-init
loop-i-init g c = record {
  held = search rules;
  long = omega arith;
  room = omega (arith, c.requires.room);
  fit = λ t h. h;
  states = λ t xs h.
      let long = AllZip-length g.R.Reducer.stands c.args.kept.now.items xs h in
      rw (cut_or_filled-same (start g.R.Reducer.kind t) xs c.len-held.result (omega arith)) h;
}

pub loop-i-preserved : goal.loop-i-preserved
loop-i-preserved g c =
    let vs = c.loop-i.kept.items in
    let i = c.loop-i._i in
    let pushed : c.push_reserved.new.self.items ≡ vs ++ c.init.result ∷ [] = c.push_reserved.ensures.items in
    record {
      held = c.loop-i.invariant.held;
      long = ap length pushed ∙ length_push vs c.init.result ∙ ap (λ (n : ℕ). n + 1) c.loop-i.invariant.long;
      room = search rules;
      fit = λ t h. subst (λ ws. AllFit g.R.Reducer.fits t ws) (sym pushed) (All-push (λ v. g.R.Reducer.fits t v ≡ true) vs c.init.result (c.loop-i.invariant.fit t h) (c.init.ensures.fits t));
      states = λ t xs h.
          let R = g.R.Reducer.stands in
          let k = g.R.Reducer.kind in
          let long = AllZip-length R c.args.kept.now.items xs h in
          let old : length xs ≤ i = omega arith in
          let none : R c.init.result (start k t) = subst (λ (s : State). R c.init.result s) (sym (start-plain k t g.met.R.Reducer.plain)) c.init.ensures.none in
          rw (pushed, cut_or_filled-more (start k t) xs i old) (AllZip-push R vs (cut_or_filled (start k t) xs i) c.init.result (start k t) (c.loop-i.invariant.states t xs h) none);
    }
