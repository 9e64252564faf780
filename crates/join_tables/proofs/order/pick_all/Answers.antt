use Rattle.std.proofs.Common.{◌≡◌, ◌<◌, List, [], ◌∷◌, ◌++◌, map, length, get_or, sym, ap₂, ◌∙◌, arith}
use Rattle.join_laws.specs.declared.Pair.{Pair}
use Rattle.join_laws.specs.Partitions.{pair_at}
use Rattle.join_tables.proofs.Ids.{no_position, positions_long, position_here, made_more}
use Rattle.join_tables.proofs.order.pick_all.Goals as goal

pub pick-requires : goal.pick-requires
pick-requires c =
    let xs = c.requires.0 in
    let k = c.loop-id.id-index in
    (get_or xs k no_position, position_here c.args.ids.now xs k (record { word = 0 }) c.requires.1 (omega arith), c.requires.2 k no_position (omega (arith, positions_long c.args.ids.now xs c.requires.1)))

pub loop-id-preserved : goal.loop-id-preserved
loop-id-preserved c = λ xs e.
    let k = c.loop-id.id-index in
    let found = map (λ q. q.items) c.args.found.now in
    let h : k < length c.args.ids.now = omega arith in
    let now : c.pick.result ≡ pair_at found (get_or xs k no_position) = c.pick.ensures (get_or xs k no_position) (position_here c.args.ids.now xs k (record { word = 0 }) e h) in
    c.in_ok-push.ensures.items ∙ ap₂ (λ (ps : List Pair) (q : Pair). ps ++ q ∷ []) (c.loop-id.invariant xs e) now
    ∙ sym (made_more (pair_at found) xs k (omega (arith, positions_long c.args.ids.now xs e)))
