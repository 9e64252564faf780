use Rattle.std.proofs.Common.{◌<◌, ◌^◌, ◌∙◌, [], List, ap, sym, subst, length, bytes_eq, arith}
use Rattle.std.proofs.lemmas.List.{get_or-map, length-map}
use Rattle.std.proofs.lemmas.Slice.Eq.{bytes_eq-Decides}
use Rattle.col_core.specs.declared.schema.Field.{Field}
use Rattle.row_code.specs.Spelling.{IsSpelling}
use Rattle.key_groups.specs.Groups.{KeyGroups, key_at, keys_at}
use Rattle.key_groups.proofs.Index.{few_next, took_next, took_front, on_err}
use Rattle.key_groups.proofs.row_encoded.RowEncodedHashGrouperGrouper.gather_combine.Goals as goal

pub take_key-requires-clause-few : goal.take_key-requires-clause-few
take_key-requires-clause-few g c =
    let ks = c.args.other.now.keys in
    let subset = c.args.subset.now in
    let inside : c.loop-i.i-index < length subset = omega arith in
    let found = c.hashed_key-hash.ensures.key ∙ sym (get_or-map (key_at ks) subset c.loop-i.i-index 0 [] inside) in
    let below : c.loop-i.i-index < length (keys_at c.args.other.now.keys c.args.subset.now) = omega (arith, length-map subset (key_at ks)) in
    few_next bytes_eq bytes_eq-Decides c.args.self.now.keys (keys_at c.args.other.now.keys c.args.subset.now) c.loop-i.self.keys c.loop-i.group_idxs.items c.hashed_key-hash.result.1.now [] c.loop-i.i-index (2 ^ 32) below found c.loop-i.invariant.took c.requires.few

pub take_key-requires-clause-spelled : goal.take_key-requires-clause-spelled
take_key-requires-clause-spelled g c = subst (λ (s : List Field). IsSpelling s c.hashed_key-hash.result.1.now) (c.requires.same_schema ∙ sym c.loop-i.invariant.schema) c.hashed_key-hash.ensures.spelled

pub loop-i-preserved : goal.loop-i-preserved
loop-i-preserved g c =
    let ks = c.args.other.now.keys in
    let subset = c.args.subset.now in
    let inside : c.loop-i.i-index < length subset = omega arith in
    let found = c.hashed_key-hash.ensures.key ∙ sym (get_or-map (key_at ks) subset c.loop-i.i-index 0 [] inside) in
    let below : c.loop-i.i-index < length (keys_at c.args.other.now.keys c.args.subset.now) = omega (arith, length-map subset (key_at ks)) in
    let new = c.in_ok-take_key.ensures.ok in
    record {
      took = took_next bytes_eq bytes_eq-Decides c.args.self.now.keys (keys_at c.args.other.now.keys c.args.subset.now) c.loop-i.self.keys c.take_key.new.self.keys c.loop-i.group_idxs.items c.take_key.new.group_idxs.items c.hashed_key-hash.result.1.now [] c.loop-i.i-index below found c.loop-i.invariant.took
          (ap (λ (t : KeyGroups). t.keys) new) c.in_ok-take_key.ensures.index;
      schema = ap (λ (t : KeyGroups). t.schema) new ∙ c.loop-i.invariant.schema;
      state = ap (λ (t : KeyGroups). t.state) new ∙ c.loop-i.invariant.state;
      cost = omega (arith, c.in_ok-take_key.ensures.cost, c.loop-i.invariant.cost);
    }

pub returns-in_err-take_key-clause-err : goal.returns-in_err-take_key-clause-err
returns-in_err-take_key-clause-err g c =
    let ks = c.args.other.now.keys in
    let subset = c.args.subset.now in
    let inside : c.loop-i.i-index < length subset = omega arith in
    let found = c.hashed_key-hash.ensures.key ∙ sym (get_or-map (key_at ks) subset c.loop-i.i-index 0 [] inside) in
    let below : c.loop-i.i-index < length (keys_at c.args.other.now.keys c.args.subset.now) = omega (arith, length-map subset (key_at ks)) in
    on_err c.from_residual.result (took_front bytes_eq (keys_at c.args.other.now.keys c.args.subset.now) c.args.self.now.keys c.loop-i.self.keys c.take_key.new.self.keys c.loop-i.group_idxs.items c.take_key.new.group_idxs.items c.loop-i.i-index c.args.steps.now c.loop-i.steps c.take_key.new.steps below c.loop-i.invariant.took
    (ap (λ (t : KeyGroups). t.keys) c.in_err-take_key.ensures.err) c.in_err-take_key.ensures.err_indexes c.loop-i.invariant.cost c.in_err-take_key.ensures.err_cost)
