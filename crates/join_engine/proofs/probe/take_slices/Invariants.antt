use Rattle.std.proofs.Common.{◌≡◌, ◌+◌, ◌-◌, ◌≤◌, List, ◌++◌, length, drop}
use Rattle.col_core.specs.Tables.{Row}
use Rattle.list_laws.specs.Runs.{runs}
use Rattle.join_engine.specs.Listed.{CostsRows, ListsMore}
use Rattle.join_engine.proofs.probe.take_slices.Given as goal

abbrev pub invariant-loop-start : goal.invariant-loop-start
invariant-loop-start g l = record {
  front : l.start ≤ length l.frame.rows;
  listed : (done : List (List Row)) × (runs l.query.plan.morsel l.frame.rows ≡ done ++ runs l.query.plan.morsel (drop l.start l.frame.rows))
      × ListsMore l.query l.build done l.initial.built l.initial.listing l.built l.listing;
  morsels : l.listing.morsels ≤ l.initial.listing.morsels + l.start;
  cost : CostsRows l.start l.initial.listing l.initial.steps l.steps l.listing;
}

abbrev pub decreases-loop-start : goal.decreases-loop-start
decreases-loop-start g l = length l.frame.rows - l.start
