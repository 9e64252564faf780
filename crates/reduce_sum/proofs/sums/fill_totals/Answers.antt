use Rattle.std.proofs.Common.{◌≡◌, ◌+◌, [], ◌∷◌, ◌++◌, ℕ, length, ap, ◌∙◌, arith, rules}
use Rattle.std.proofs.lemmas.List.{length_push, length-map}
use Rattle.reduce_states.specs.States.{total}
use Rattle.reduce_sum.specs.Sums.{total_states}
use Rattle.reduce_sum.proofs.Totals.{total_states-more}
use Rattle.reduce_sum.proofs.sums.fill_totals.Goals as goal

pub loop-i-preserved : goal.loop-i-preserved
loop-i-preserved g c =
    let value = g.T.Number.value in
    let totals = c.loop-i.totals.items in
    let pushed : c.push_reserved.new.self.items ≡ totals ++ c.zero.result ∷ [] = c.push_reserved.ensures.items in
    let zero = ap value c.zero.ensures ∙ g.met.T.Zero.zero_law g.met.T.Integral.exact_law in
    record {
      held = c.loop-i.invariant.held;
      long = ap length pushed ∙ length_push totals c.zero.result ∙ ap (λ (n : ℕ). n + 1) c.loop-i.invariant.long;
      room = search rules;
      states = λ t. total_states-more value t totals c.push_reserved.new.self.items (total_states value t c.args.totals.now.items) c.loop-i._i c.zero.result zero c.loop-i.invariant.long
          (omega (arith, length-map c.args.totals.now.items (λ x. total t (value x)), c.loop-i.invariant.held, c.len-held.ensures, c.loop-i.auto._i)) pushed (c.loop-i.invariant.states t);
    }
