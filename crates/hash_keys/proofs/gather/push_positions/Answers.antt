use Rattle.std.proofs.Common.{[], ◌∷◌, map, take, length, ap, ◌∙◌}
use Rattle.std.proofs.lemmas.List.{map-append}
use Rattle.key_parts.specs.Positions.{position}
use Rattle.hash_keys.proofs.Gathered.{position_more, kept_more}
use Rattle.hash_keys.proofs.gather.push_positions.Goals as goal

pub loop-j-preserved : goal.loop-j-preserved
loop-j-preserved c = record {
  so_far =
      position_more c.args.partition c.args.start c.loop-j.j (map position c.loop-j.gather_idxs.items) (map position c.args.gather_idxs.now.items) (map position c.push.new.self.items) (position c.store.result)
      c.loop-j.invariant.so_far c.store.ensures
      (ap (map position) c.in_ok-push.ensures.items ∙ map-append position c.loop-j.gather_idxs.items (c.store.result ∷ []));
  kept = ap (take (length c.args.gather_idxs.now.items)) c.in_ok-push.ensures.items ∙ kept_more c.args.gather_idxs.now.items c.loop-j.gather_idxs.items c.store.result c.loop-j.invariant.kept;
}
