use Rattle.std.proofs.Common.{◌≡◌, ◌<◌, ◌^◌, ◌∙◌, [], ℕ, List, ap, sym, subst, take, length, bytes_eq, arith}
use Rattle.std.specs.Prelude.{unwrap_or}
use Rattle.std.proofs.lemmas.List.{length-map, take_all}
use Rattle.std.proofs.lemmas.Slice.Eq.{bytes_eq-Decides}
use Rattle.col_core.specs.declared.schema.Field.{Field}
use Rattle.row_code.specs.Spelling.{IsSpelling}
use Rattle.hash_keys.specs.Views.{keys_of}
use Rattle.key_groups.specs.Groups.{KeyGroups, bytes_of}
use Rattle.key_groups.specs.Taken.{TookKeys}
use Rattle.key_groups.proofs.Index.{few_next, took_next, took_front, on_err}
use Rattle.key_groups.proofs.Kept.{given_at}
use Rattle.key_groups.proofs.row_encoded.RowEncodedHashGrouperGrouper.insert_keys.Goals as goal

pub take_key-requires-clause-few : goal.take_key-requires-clause-few
take_key-requires-clause-few g c =
    let ks = keys_of c.args.keys in
    let inside : c.loop-i.i < length ks = omega arith in
    let found = given_at ks c.loop-i.i c.in-Some.key.now inside c.in-Some.ensures in
    let below : c.loop-i.i < length (bytes_of (keys_of c.args.keys)) = omega (arith, length-map ks (λ k. unwrap_or k [])) in
    few_next bytes_eq bytes_eq-Decides c.args.self.now.keys (bytes_of (keys_of c.args.keys)) c.loop-i.self.keys c.loop-i.group_idxs.items c.in-Some.key.now [] c.loop-i.i (2 ^ 32) below found c.loop-i.invariant.took c.requires.few

pub take_key-requires-clause-spelled : goal.take_key-requires-clause-spelled
take_key-requires-clause-spelled g c =
    let ks = keys_of c.args.keys in
    let inside : c.loop-i.i < length ks = omega arith in
    let found = given_at ks c.loop-i.i c.in-Some.key.now inside c.in-Some.ensures in
    let below : c.loop-i.i < length (bytes_of ks) = omega (arith, length-map ks (λ k. unwrap_or k [])) in
    subst (λ (s : List Field). IsSpelling s c.in-Some.key.now) (sym c.loop-i.invariant.schema)
    (subst (IsSpelling c.args.self.now.schema) (sym found) (c.requires.spelled c.loop-i.i [] below))

pub loop-i-preserved : goal.loop-i-preserved
loop-i-preserved g c =
    let ks = keys_of c.args.keys in
    let inside : c.loop-i.i < length ks = omega arith in
    let found = given_at ks c.loop-i.i c.in-Some.key.now inside c.in-Some.ensures in
    let below : c.loop-i.i < length (bytes_of (keys_of c.args.keys)) = omega (arith, length-map ks (λ k. unwrap_or k [])) in
    let new = c.in_ok-take_key-in-Some.ensures.ok in
    record {
      took = took_next bytes_eq bytes_eq-Decides c.args.self.now.keys (bytes_of (keys_of c.args.keys)) c.loop-i.self.keys c.take_key.new.self.keys c.loop-i.group_idxs.items c.take_key.new.group_idxs.items c.in-Some.key.now [] c.loop-i.i below found c.loop-i.invariant.took
          (ap (λ (t : KeyGroups). t.keys) new) c.in_ok-take_key-in-Some.ensures.index;
      schema = ap (λ (t : KeyGroups). t.schema) new ∙ c.loop-i.invariant.schema;
      state = ap (λ (t : KeyGroups). t.state) new ∙ c.loop-i.invariant.state;
      cost = omega (arith, c.in_ok-take_key-in-Some.ensures.cost, c.loop-i.invariant.cost);
    }

pub returns-in_err-take_key-in-Some-clause-err : goal.returns-in_err-take_key-in-Some-clause-err
returns-in_err-take_key-in-Some-clause-err g c =
    let ks = keys_of c.args.keys in
    let inside : c.loop-i.i < length ks = omega arith in
    let found = given_at ks c.loop-i.i c.in-Some.key.now inside c.in-Some.ensures in
    let below : c.loop-i.i < length (bytes_of (keys_of c.args.keys)) = omega (arith, length-map ks (λ k. unwrap_or k [])) in
    on_err c.from_residual.result (took_front bytes_eq (bytes_of (keys_of c.args.keys)) c.args.self.now.keys c.loop-i.self.keys c.take_key.new.self.keys c.loop-i.group_idxs.items c.take_key.new.group_idxs.items c.loop-i.i c.args.steps.now c.loop-i.steps c.take_key.new.steps below c.loop-i.invariant.took
    (ap (λ (t : KeyGroups). t.keys) c.in_err-take_key-in-Some.ensures.err) c.in_err-take_key-in-Some.ensures.err_indexes c.loop-i.invariant.cost c.in_err-take_key-in-Some.ensures.err_cost)

pub returns-clause-ok : goal.returns-clause-ok
returns-clause-ok g c =
    let ks = keys_of c.args.keys in
    let whole : take c.loop-i.i (bytes_of ks) ≡ bytes_of ks = take_all c.loop-i.i (bytes_of ks) (omega (arith, length-map ks (λ k. unwrap_or k []))) in
    subst (λ (gs : List (List ℕ)). TookKeys bytes_eq gs c.args.self.now.keys c.loop-i.self.keys c.loop-i.group_idxs.items) whole c.loop-i.invariant.took
