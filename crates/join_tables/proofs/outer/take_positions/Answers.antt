use Rattle.std.proofs.Common.{◌≡◌, ◌<◌, List, [], ◌∷◌, ◌++◌, map, length, get_or, take, sym, ap, ap₂, ◌∙◌, arith}
use Rattle.std.proofs.lemmas.List.{append_assoc}
use Rattle.col_core.specs.declared.row_place.RowPlace.{RowPlace}
use Rattle.join_laws.specs.Partitions.{row_of}
use Rattle.join_tables.proofs.Ids.{no_position, positions_long, position_here, made_more}
use Rattle.join_tables.proofs.outer.take_positions.Goals as goal

pub build_row-requires : goal.build_row-requires
build_row-requires c =
    let xs = c.requires.0 in
    let k = c.loop-id.id-index in
    (get_or xs k no_position, position_here c.args.ids.now xs k (record { word = 0 }) c.requires.1 (omega arith), c.requires.2 k no_position (omega (arith, positions_long c.args.ids.now xs c.requires.1)))

pub loop-id-preserved : goal.loop-id-preserved
loop-id-preserved c = λ xs e.
    let k = c.loop-id.id-index in
    let row = row_of c.args.places.now c.args.partition in
    let h : k < length c.args.ids.now = omega arith in
    let now : c.build_row.result ≡ row (get_or xs k no_position) = c.build_row.ensures (get_or xs k no_position) (position_here c.args.ids.now xs k (record { word = 0 }) e h) in
    c.in_ok-push.ensures.items ∙ ap₂ (λ (ps : List RowPlace) (q : RowPlace). ps ++ q ∷ []) (c.loop-id.invariant xs e) now
    ∙ append_assoc c.args.rows.now.items (map row (take k xs)) (row (get_or xs k no_position) ∷ [])
    ∙ ap (λ t. c.args.rows.now.items ++ t) (sym (made_more row xs k (omega (arith, positions_long c.args.ids.now xs e))))
