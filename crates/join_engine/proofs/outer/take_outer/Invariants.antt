use Rattle.std.proofs.Common.{◌≡◌, ◌+◌, ◌≤◌, ◌++◌, List, length, map}
use Rattle.std.specs.Slice.Iter.{chunks_rest, chunks_size}
use Rattle.list_laws.specs.Runs.{runs}
use Rattle.col_core.specs.Tables.{Row}
use Rattle.col_core.specs.declared.row_place.RowPlace.{RowPlace}
use Rattle.join_engine.specs.Listed.{outer_row, CostsRows, IsListing}
use Rattle.join_engine.proofs.outer.take_outer.Given as goal

abbrev pub invariant-loop-chunk : goal.invariant-loop-chunk
invariant-loop-chunk g l = record {
  can_next : (goal.iterator-loop-chunk g).can_next l.chunk-iterator;
  is_finite : (goal.iterator-loop-chunk g).is_finite l.chunk-iterator;
  size : chunks_size l.chunk-iterator ≡ l.query.plan.morsel;
  listed : (done : List (List RowPlace)) × (runs l.query.plan.morsel l.places ≡ done ++ runs l.query.plan.morsel (chunks_rest l.chunk-iterator))
      × ((ms : List (List Row)) → IsListing l.query ms l.fn.listing → IsListing l.query (ms ++ map (map (outer_row l.query l.build)) done) l.listing);
  morsels : l.listing.morsels + length (chunks_rest l.chunk-iterator) ≤ l.fn.listing.morsels + length l.places;
  cost : CostsRows 0 l.fn.listing l.initial.steps l.steps l.listing;
}
