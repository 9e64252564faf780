use Rattle.std.proofs.Common.{rules, ◌≡◌, ℕ, ◌+◌, ◌<◌, ◌≤◌, List, ◌++◌, map, length, take, drop, flat_map, sym, ap, ◌∙◌, arith}
use Rattle.std.proofs.lemmas.List.{length-drop, map-append, append_assoc, take_all}
use Rattle.std.proofs.lemmas.List.Concat.{flat_map-append}
use Rattle.std.proofs.Math.Seq.{take-add}
use Rattle.col_core.specs.declared.row_place.RowPlace.{RowPlace}
use Rattle.key_parts.specs.Positions.{Position, position}
use Rattle.list_laws.proofs.Each.{All-from_Each}
use Rattle.chunked_idx_table.specs.Replies.{processed}
use Rattle.chunked_idx_table.specs.Probes.{items}
use Rattle.join_laws.specs.Partitions.{row_of, InPlaces}
use Rattle.join_laws.proofs.Probes.{processed_front}
use Rattle.join_laws.proofs.OuterRows.{processed_zero, items_fit, some_items_fit}
use Rattle.join_tables.proofs.outer.take_unmatched.Goals as goal

abbrev given : List (List Position) → List Position
given xss = flat_map (λ x. x) xss

pub returns-then-taken-eq0 : goal.returns-then-taken-eq0
returns-then-taken-eq0 c =
    let all = items c.args.table.now in
    let done = c.loop-taken.done in
    let none = processed_zero (λ (x : List Position). x) c.args.limit (drop done all) (sym c.in_ok-taken.ensures.count ∙ c.if-taken-eq0.true) in
    let long = length-drop done all in
    c.loop-taken.invariant.so_far ∙ ap (λ (xss : List (List Position)). c.args.rows.now.items ++ map (row_of c.args.places.now c.args.partition) (given xss)) (take_all done all (omega (arith, ap length none, long, c.loop-taken.invariant.front)))

pub take_positions-requires : goal.take_positions-requires
take_positions-requires c =
    let t = c.args.table.now in
    let xs = given (take c.in_ok-taken.taken (drop c.loop-taken.done (items t))) in
    (xs, ap (map position) c.deref.ensures.value ∙ c.in_ok-taken.ensures.ok, All-from_Each (InPlaces c.args.places.now c.args.partition) xs (some_items_fit c.args.places.now c.args.partition (items t) c.loop-taken.done c.in_ok-taken.taken (items_fit c.args.places.now c.args.partition t c.requires.fits)))

more_fits : (limit done taken : ℕ) (all : List (List Position)) → taken ≡ processed (λ (x : List Position). x) limit (drop done all) → done ≤ length all → done + taken ≤ length all
more_fits limit done taken all e h = omega (arith, processed_front (λ (x : List Position). x) limit (drop done all), length-drop done all)

pub overflow_add-done : goal.overflow_add-done
overflow_add-done c =
    let h = more_fits c.args.limit c.loop-taken.done c.in_ok-taken.taken (items c.args.table.now) c.in_ok-taken.ensures.count c.loop-taken.invariant.front in
    let small : c.loop-taken.done + c.in_ok-taken.taken < 4294967296 = omega (arith, h, c.requires.few) in
    search rules

pub loop-taken-preserved : goal.loop-taken-preserved
loop-taken-preserved c =
    let all = items c.args.table.now in
    let row = row_of c.args.places.now c.args.partition in
    let i = c.loop-taken.done in
    let n = c.in_ok-taken.taken in
    let xs = given (take n (drop i all)) in
    record {
      front = more_fits c.args.limit i n all c.in_ok-taken.ensures.count c.loop-taken.invariant.front;
      so_far =
          c.in_ok-take_positions.ensures xs (ap (map position) c.deref.ensures.value ∙ c.in_ok-taken.ensures.ok)
          ∙ ap (λ (rs : List RowPlace). rs ++ map row xs) c.loop-taken.invariant.so_far
          ∙ append_assoc c.args.rows.now.items (map row (given (take i all))) (map row xs)
          ∙ ap (λ (rs : List RowPlace). c.args.rows.now.items ++ rs) (sym (ap (λ (xss : List (List Position)). map row (given xss)) (take-add i n all) ∙ ap (map row) (flat_map-append (λ (x : List Position). x) (take i all) (take n (drop i all))) ∙ map-append row (given (take i all)) xs));
    }
