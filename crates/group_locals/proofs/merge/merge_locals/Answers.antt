use Rattle.std.proofs.Common.{◌+◌, length, take, take_all, ap, sym, ◌∙◌, subst, arith}
use Rattle.std.proofs.lemmas.List.{length-map}
use Rattle.group_locals.specs.Locals.{LocalFits}
use Rattle.group_locals.specs.Merging.{MergesAll, merged_first}
use Rattle.group_locals.proofs.Few.{few_next, length-keys_front, length-keys_next}
use Rattle.group_locals.proofs.Merges.{merges_at, merges_none}
use Rattle.group_locals.proofs.Pairs.{each_at_place}
use Rattle.group_locals.proofs.merge.merge_locals.Goals as goal

pub loop-local-init : goal.loop-local-init
loop-local-init g c = record {
  merges = λ of fits.
      let first = c.index-locals-0.result in
      let mine = subst (LocalFits g.R.Stated.shape of) (sym c.index-locals-0.is) (each_at_place (LocalFits g.R.Stated.shape of) c.args.locals.now 0 first c.requires.some fits.each) in
      merges_none g.R.Stated.shape g.R.Stated.holds g.met.R.GroupedReduction.long of (length first.grouper.keys) c.in_ok-whole.whole first.reductions first.grouper mine.is_of.schema_is mine.is_of.state_is mine.is_of.shapes_are c.in_ok-whole.ensures.grouper c.in_ok-whole.ensures.first_rows c.in_ok-whole.ensures.reductions;
  cost = omega arith;
}

pub absorb-requires-clause-fits : goal.absorb-requires-clause-fits
absorb-requires-clause-fits g c =
    let of = c.requires.fit.0 in
    let fits = c.requires.fit.1 in
    (of, (c.loop-local.invariant.merges of fits).is_of, subst (LocalFits g.R.Stated.shape of) (sym c.local-item.is) (each_at_place (LocalFits g.R.Stated.shape of) c.args.locals.now c.loop-local.local-index c.local-item.result c.loop-local-test.true fits.each))

pub absorb-requires-clause-long : goal.absorb-requires-clause-long
absorb-requires-clause-long g c =
    let so = c.loop-local.invariant.merges c.requires.fit.0 c.requires.fit.1 in
    ap length so.firsts_are ∙ length-map c.loop-local.whole.grouper.keys (merged_first (take c.loop-local.local-index c.args.locals.now))

pub absorb-requires-clause-few : goal.absorb-requires-clause-few
absorb-requires-clause-few g c =
    let of = c.requires.fit.0 in
    let fits = c.requires.fit.1 in
    few_next g.R.Stated.shape of c.args.locals.now c.loop-local.local-index c.local-item.result c.loop-local.whole.grouper.keys fits c.loop-local-test.true c.local-item.is (c.loop-local.invariant.merges of fits).keys_are

pub returns-in_err-absorb-clause-cost : goal.returns-in_err-absorb-clause-cost
returns-in_err-absorb-clause-cost g c =
    let of = c.requires.fit.0 in
    let a = length-keys_next g.R.Stated.shape of c.args.locals.now c.loop-local.local-index c.local-item.result c.loop-local-test.true c.local-item.is in
    let b = length-keys_front g.R.Stated.shape of c.args.locals.now (c.loop-local.local-index + 1) in
    omega (arith, a, b, c.loop-local.invariant.cost, c.absorb.ensures.cost)

pub loop-local-preserved : goal.loop-local-preserved
loop-local-preserved g c = record {
  merges = λ of fits. merges_at g.R.Stated.shape g.R.Stated.holds g.met.R.GroupedReduction.long of c.args.locals.now c.loop-local.local-index c.local-item.result c.loop-local.whole c.absorb.new.self c.loop-local-test.true c.local-item.is fits.each (c.loop-local.invariant.merges of fits) c.in_ok-absorb.ensures.ok;
  cost =
      let a = length-keys_next g.R.Stated.shape c.requires.fit.0 c.args.locals.now c.loop-local.local-index c.local-item.result c.loop-local-test.true c.local-item.is in
      omega (arith, a, c.loop-local.invariant.cost, c.in_ok-absorb.ensures.cost);
}

pub returns-clause-ok : goal.returns-clause-ok
returns-clause-ok g c = λ of fits. subst (λ ls. MergesAll g.R.Stated.shape g.R.Stated.holds of ls c.loop-local.whole) (take_all c.loop-local.local-index c.args.locals.now c.loop-local-test.false) (c.loop-local.invariant.merges of fits)
