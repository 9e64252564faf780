use Rattle.std.proofs.Common.{◌≡◌, Option, Some, OnOk, IfErr, option_map, option_and_then, inr, refl, sym, ap, subst}
use Rattle.serde_json.specs.Data.{Data}
use Rattle.join_request.specs.Columns.{grown}
use Rattle.join_request.specs.Leaves.{leaf_of_value}
use Rattle.join_request.specs.Refused.{Refuses}
use Rattle.join_request.proofs.Rows.{item_at, item_past}
use Rattle.join_request.proofs.frames.push_item.Goals as goal

pub returns-in_default-clause-err : goal.returns-in_default-clause-err
returns-in_default-clause-err g c =
    let none = item_past c.args.row.now c.args.i c.in_default.ensures.lookup.3 in
    inr (refl, ap (option_and_then (leaf_of_value (g.R.ReadLeaf.dtype c.args.reader.now))) none)

pub returns-clause-ok : goal.returns-clause-ok
returns-clause-ok g c =
    let at = c.in-Some.ensures.lookup in
    let item = item_at c.args.row.now c.args.i c.in-Some.item.now at.3.0 at.1 in
    subst (λ (o : Option Data). OnOk c.read_leaf.result (option_map (grown c.args.values.now) (option_and_then (leaf_of_value (g.R.ReadLeaf.dtype c.args.reader.now)) o) ≡ Some c.read_leaf.new.column)) (sym item) c.read_leaf.ensures.ok

pub returns-clause-err : goal.returns-clause-err
returns-clause-err g c =
    let at = c.in-Some.ensures.lookup in
    let item = item_at c.args.row.now c.args.i c.in-Some.item.now at.3.0 at.1 in
    subst (λ (o : Option Data). IfErr c.read_leaf.result (Refuses (option_and_then (leaf_of_value (g.R.ReadLeaf.dtype c.args.reader.now)) o))) (sym item) c.read_leaf.ensures.err
