use Rattle.std.proofs.Common.{◌+◌, ◌≤◌, length, take}
use Rattle.join_model.specs.Joined.{rows_of}
use Rattle.join_engine.specs.Listed.{probe_morsels, CostsRows, HasListed}
use Rattle.join_engine.proofs.probe.take_probe.Given as goal

abbrev pub invariant-loop-frame : goal.invariant-loop-frame
invariant-loop-frame g l = record {
  listed : HasListed l.query l.build (probe_morsels l.query (take l.frame-index l.probe)) l.built l.listing;
  morsels : l.listing.morsels ≤ l.initial.listing.morsels + length (rows_of (take l.frame-index l.probe));
  cost : CostsRows (length (rows_of (take l.frame-index l.probe))) l.initial.listing l.initial.steps l.steps l.listing;
}
