use Rattle.std.proofs.Common.{◌∙◌, length, sym, ap}
use Rattle.join_model.specs.Filtered.{compares}
use Rattle.join_pairs.proofs.Masks.{compared_long, kept_long}
use Rattle.join_pairs.proofs.mask.compare_arrays.Goals as goal

pub where_present-requires : goal.where_present-requires
where_present-requires g c =
    sym (ap length c.in_ok-stored.ensures ∙ compared_long (compares c.args.op) g.T.Number.value c.args.left.now c.args.right.now c.requires)

pub where_present-requires-2 : goal.where_present-requires-2
where_present-requires-2 g c =
    let long = sym (ap length c.in_ok-stored.ensures ∙ compared_long (compares c.args.op) g.T.Number.value c.args.left.now c.args.right.now c.requires) in
    sym c.requires ∙ long ∙ sym (ap length c.in_ok-bits.ensures ∙ kept_long c.in_ok-stored.stored c.args.left.now long)
