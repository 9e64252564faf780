use Rattle.std.proofs.Common.{rules, ◌≡◌, ℕ, ◌<◌, List, [], ◌∷◌, ◌++◌, map, length, get_or, take, Option, Some, None, sym, ap, ap₂, ◌∙◌, subst, arith}
use Rattle.std.proofs.lemmas.List.{get_or-map, length-map, append_assoc}
use Rattle.std.proofs.lemmas.Grind.{get_or_default_zero}
use Rattle.key_parts.specs.declared.chunk_id.ChunkId.{ChunkId}
use Rattle.key_parts.specs.Positions.{Position, position}
use Rattle.col_core.specs.declared.row_place.RowPlace.{RowPlace}
use Rattle.join_laws.specs.declared.Pair.{Pair}
use Rattle.join_laws.specs.Partitions.{FitsPlaces, reply_pairs}
use Rattle.join_laws.proofs.Probes.{reply_more, reply_pair}
use Rattle.join_tables.proofs.reply.take_reply.Goals as goal

match_at : (ids : List ChunkId) (i : ℕ) (id : ChunkId) → id ≡ get_or ids i id → i < length ids → position id ≡ get_or (map position ids) i None
match_at ids i id e h = ap position e ∙ sym (get_or-map position ids i id None h)

pub build_of-build-requires : goal.build_of-build-requires
build_of-build-requires c =
    let ids = c.args.reply.now.positions.items in
    let h : c.loop-i.i < length ids = search rules in
    let e = match_at ids c.loop-i.i c.index.result.now c.index.ensures h in
    subst (λ (m : Option Position). FitsPlaces c.args.places.now c.args.partition m) (sym e) (c.requires.inside c.loop-i.i None (omega (arith, length-map ids position)))

pub loop-i-preserved : goal.loop-i-preserved
loop-i-preserved c =
    let ids = c.args.reply.now.positions.items in
    let rows = c.args.reply.now.rows.items in
    let i = c.loop-i.i in
    let h : i < length ids = search rules in
    let e = match_at ids i c.index.result.now c.index.ensures h in
    let r = c.index-in-loop-i.ensures ∙ get_or_default_zero rows i c.index-in-loop-i.result.now (omega (arith, c.requires.long)) in
    let more = reply_more c.args.places.now c.args.partition (map position ids) rows i (omega (arith, length-map ids position)) (omega (arith, c.requires.long)) in
    let front = reply_pairs c.args.places.now c.args.partition (take i (map position ids)) (take i rows) in
    let pair = ap₂ (λ m k. reply_pair c.args.places.now c.args.partition (m, k)) e r in
    c.in_ok-push.ensures.items
    ∙ ap₂ (λ (ps : List Pair) (b : Option RowPlace). ps ++ record { probe = Some c.index-in-loop-i.result.now; build = b } ∷ []) c.loop-i.invariant c.build_of-build.ensures
    ∙ ap (λ (q : Pair). (c.args.pairs.now.items ++ front) ++ q ∷ []) pair
    ∙ append_assoc c.args.pairs.now.items front (reply_pair c.args.places.now c.args.partition (get_or (map position ids) i None, get_or rows i 0) ∷ [])
    ∙ ap (λ t. c.args.pairs.now.items ++ t) (sym more)
