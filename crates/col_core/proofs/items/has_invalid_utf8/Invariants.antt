use Rattle.std.proofs.Common.{◌≡◌, false, map, not, take}
use Rattle.std.specs.List.{list_any}
use Rattle.col_core.specs.declared.data_type.DataType.TheVariants.{String}
use Rattle.col_core.specs.declared.leaf.Leaf.TheVariants as leaves
use Rattle.col_core.specs.Values.{is_text, item_leaf}
use Rattle.col_core.proofs.items.has_invalid_utf8.Given as goal

abbrev pub invariant-loop-i : goal.invariant-loop-i
invariant-loop-i l = list_any (λ value. not (is_text String value)) (take l.i (map (item_leaf (λ b. leaves.Bytes b)) l.items)) ≡ false
