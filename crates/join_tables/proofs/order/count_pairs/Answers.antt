use Rattle.std.proofs.Common.{◌+◌, [], ◌∷◌, length, get_or, take, inl, inr, ◌∙◌, arith}
use Rattle.std.proofs.lemmas.Bool.{cases_lt}
use Rattle.std.proofs.lemmas.List.{length-take-le}
use Rattle.join_laws.specs.Partitions.{is_of, no_pair}
use Rattle.join_laws.proofs.RowOrder.{count_more, count_front, count_short, own_count}
use Rattle.join_tables.proofs.order.count_pairs.Goals as goal

pub count_pair-requires-clause-inside : goal.count_pair-requires-clause-inside
count_pair-requires-clause-inside c = λ i e. elim (cases_lt i (length c.args.counts.now)) [
  | inl less ↦ omega (arith, c.loop-pair.invariant.long)
  | inr past ↦ absurd (
      let k = c.loop-pair.pair-index in
      let none = c.requires.inside i past in
      let one = own_count i (get_or c.args.pairs.now k no_pair ∷ []) (e, tt) in
      omega (arith, none, one, count_more (is_of i) c.args.pairs.now k no_pair (omega arith), count_front (is_of i) c.args.pairs.now (k + 1)))
]

pub count_pair-requires-clause-room : goal.count_pair-requires-clause-room
count_pair-requires-clause-room c = λ i. omega (arith, c.requires.room i, c.loop-pair.invariant.so_far i, count_short (is_of i) (take c.loop-pair.pair-index c.args.pairs.now), length-take-le c.loop-pair.pair-index c.args.pairs.now (omega arith))

pub loop-pair-preserved : goal.loop-pair-preserved
loop-pair-preserved c = record {
  long = c.count_pair.auto.counts ∙ c.loop-pair.invariant.long;
  so_far = λ i. omega (arith, c.count_pair.ensures i, c.loop-pair.invariant.so_far i, count_more (is_of i) c.args.pairs.now c.loop-pair.pair-index no_pair (omega arith));
}
