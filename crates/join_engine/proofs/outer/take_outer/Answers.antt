use Rattle.std.proofs.Common.{◌≡◌, ◌+◌, ◌<◌, ◌≤◌, List, [], ◌∷◌, ◌++◌, map, min, length, sym, ap, ◌∙◌, subst, arith}
use Rattle.std.specs.List.{All}
use Rattle.std.specs.Slice.Iter.{chunks_rest, chunks_size}
use Rattle.std.proofs.lemmas.List.{append-nil, length-append, length-map}
use Rattle.list_laws.specs.Runs.{runs}
use Rattle.col_core.specs.Tables.{Row}
use Rattle.col_core.specs.declared.row_place.RowPlace.{RowPlace}
use Rattle.join_probes.specs.Probed.{IsPair}
use Rattle.join_engine.specs.Listed.{outer_pair, outer_row, IsListing}
use Rattle.join_engine.proofs.Cuts.{runs_done, runs_more}
use Rattle.join_engine.proofs.Listed.{few_outer, good_morsel, outer_inside, outer_listed, outer_more}
use Rattle.join_engine.proofs.outer.take_outer.Goals as goal

pub take_pairs-requires-clause-pairs : goal.take_pairs-requires-clause-pairs
take_pairs-requires-clause-pairs g c =
    let q = c.args.query.now in
    let build = c.args.build.now in
    let places = c.args.places.now in
    let done = c.loop-chunk.invariant.listed.0 in
    let chunk = c.in-Some.chunk.now in
    let rest = chunks_rest c.next.new.self in
    let m = q.plan.morsel in
    let cut : runs m places ≡ done ++ runs m (chunk ++ rest) = c.loop-chunk.invariant.listed.1 ∙ ap (λ (ps : List RowPlace). done ++ runs m ps) c.in-Some.ensures.steps.1.0 in
    subst (All (IsPair c.in_ok-none.none build)) (sym (c.deref.ensures.value ∙ c.in_ok-pairs.ensures)) (outer_inside q build places chunk rest done (good_morsel q.plan c.requires.can.can_join.plan) cut c.in_ok-none.none c.requires.places)

pub take_pairs-requires-clause-listed : goal.take_pairs-requires-clause-listed
take_pairs-requires-clause-listed g c =
    let done = c.loop-chunk.invariant.listed.0 in
    let ms = c.requires.listed.0 in
    (ms ++ map (map (outer_row c.args.query.now c.args.build.now)) done, c.loop-chunk.invariant.listed.2 ms c.requires.listed.1)

pub take_pairs-requires-clause-few : goal.take_pairs-requires-clause-few
take_pairs-requires-clause-few g c =
    let q = c.args.query.now in
    let build = c.args.build.now in
    let places = c.args.places.now in
    let done = c.loop-chunk.invariant.listed.0 in
    let chunk = c.in-Some.chunk.now in
    let rest = chunks_rest c.next.new.self in
    let ms = c.requires.listed.0 in
    let m = q.plan.morsel in
    let cut : runs m places ≡ done ++ runs m (chunk ++ rest) = c.loop-chunk.invariant.listed.1 ∙ ap (λ (ps : List RowPlace). done ++ runs m ps) c.in-Some.ensures.steps.1.0 in
    let few = few_outer q build places chunk rest done (good_morsel q.plan c.requires.can.can_join.plan) cut ms c.args.listing c.loop-chunk.listing c.requires.listed.1 (c.loop-chunk.invariant.listed.2 ms c.requires.listed.1) c.requires.few in
    omega (arith, few, ap length c.deref.ensures.value, ap length c.in_ok-pairs.ensures, length-map chunk outer_pair)

-- nothing is listed yet
pub loop-chunk-init : goal.loop-chunk-init
loop-chunk-init g c =
    let q = c.args.query.now in
    let m = q.plan.morsel in
    let from : chunks_rest c.into_iter-chunk-iterator.result ≡ c.args.places.now = ap chunks_rest c.into_iter-chunk-iterator.ensures.into_iter_gives ∙ c.chunks-chunk-items.ensures.rest in
    let size : chunks_size c.into_iter-chunk-iterator.result ≡ m = ap chunks_size c.into_iter-chunk-iterator.ensures.into_iter_gives ∙ c.chunks-chunk-items.ensures.size in
    record {
      can_next = omega (arith, size, good_morsel q.plan c.requires.can.can_join.plan);
      is_finite = tt;
      size = size;
      listed = ([], ap (runs m) (sym from), λ ms h. subst (λ (joined : List (List Row)). IsListing q joined c.args.listing) (sym (append-nil ms)) h);
      morsels = omega (arith, ap length from);
      cost = omega arith;
    }

-- one chunk more
pub loop-chunk-preserved : goal.loop-chunk-preserved
loop-chunk-preserved g c =
    let q = c.args.query.now in
    let build = c.args.build.now in
    let places = c.args.places.now in
    let done = c.loop-chunk.invariant.listed.0 in
    let chunk = c.in-Some.chunk.now in
    let rest = chunks_rest c.next.new.self in
    let m = q.plan.morsel in
    let some = good_morsel q.plan c.requires.can.can_join.plan in
    let step = c.in-Some.ensures.steps.1.0 in
    let long = ap length step in
    let left = length-append chunk rest in
    let cut : runs m places ≡ done ++ runs m (chunk ++ rest) = c.loop-chunk.invariant.listed.1 ∙ ap (λ (ps : List RowPlace). done ++ runs m ps) step in
    let size = c.loop-chunk.invariant.size in
    let count = c.in-Some.ensures.steps.1.1 in
    let more = c.in-Some.ensures.steps.1.2 in
    let is_run : length chunk ≡ min m (length (chunk ++ rest)) = omega (arith, count, size, long) in
    record {
      can_next = rw (c.in-Some.ensures.steps.0) c.loop-chunk.invariant.can_next;
      is_finite = tt;
      size = c.in-Some.ensures.steps.0 ∙ c.loop-chunk.invariant.size;
      listed = (
        done ++ chunk ∷ [],
        runs_more m places chunk rest done some (omega (arith, count, more, size, some)) is_run cut,
        λ ms h. outer_more q build places chunk rest done some cut c.in_ok-none.none ms c.deref.result.now c.in_ok-listing.listing (c.deref.ensures.value ∙ c.in_ok-pairs.ensures) (c.in_ok-listing.ensures.listed (ms ++ map (map (outer_row q build)) done) (c.loop-chunk.invariant.listed.2 ms h)),
      );
      morsels = omega (arith, c.loop-chunk.invariant.morsels, c.in_ok-listing.ensures.morsels, count, more, size, some, long, left);
      cost = omega (arith, c.loop-chunk.invariant.cost, c.in_ok-listing.ensures.cost);
    }

-- and none is left
pub returns-clause-listed : goal.returns-clause-listed
returns-clause-listed g c = λ ms h.
    let q = c.args.query.now in
    let build = c.args.build.now in
    let places = c.args.places.now in
    let done = c.loop-chunk.invariant.listed.0 in
    let all = runs_done q.plan.morsel places (chunks_rest c.loop-chunk.chunk-iterator) done c.in-None.ensures.steps.1.0 c.loop-chunk.invariant.listed.1 in
    outer_listed q build places done ms c.loop-chunk.listing all (c.loop-chunk.invariant.listed.2 ms h)
