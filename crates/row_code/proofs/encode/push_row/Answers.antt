use Rattle.std.proofs.Common.{◌≡◌, ◌∙◌, ◌++◌, ℕ, List, take, ap, ap₂, sym, subst, append_assoc, Bor}
use Rattle.std.specs.List.{flat_map}
use Rattle.list_laws.proofs.Lists.{flat_map_more}
use Rattle.col_core.specs.declared.leaf.Leaf.{Leaf}
use Rattle.col_core.specs.declared.series.Series.{Series}
use Rattle.col_core.specs.Values.{value_at, Fits}
use Rattle.row_code.specs.Spelling.{spelling, IsShort, IsValueOf}
use Rattle.row_code.proofs.Columns.{All-take_more}
use Rattle.row_code.proofs.encode.push_row.Goals as goal

pub loop-column-preserved : goal.loop-column-preserved
loop-column-preserved c =
    let columns = c.args.columns.now in
    let k = c.loop-column.column-index in
    let column = c.column-item.result in
    let f = λ (s : Bor Series). spelling s.now.dtype (value_at s.now.values c.args.i) in
    let P : Bor Series → Type 0 = λ s. IsValueOf s.now.dtype (value_at s.now.values c.args.i) in
    record {
      so_far = c.in_ok-push_value.ensures.ok
          ∙ ap₂ (λ (a b : List ℕ). a ++ b) c.loop-column.invariant.so_far (ap₂ spelling c.dtype.ensures.dtype c.leaf_ref.ensures.value)
          ∙ append_assoc c.args.out.now.items (flat_map f (take k columns)) (f column)
          ∙ ap (λ (bs : List ℕ). c.args.out.now.items ++ bs) (sym (flat_map_more f columns k column c.column-item.is c.loop-column-test.true));
      values = All-take_more P columns k column c.column-item.is c.loop-column-test.true c.loop-column.invariant.values (record {
        fits = subst (Fits column.now.dtype) c.leaf_ref.ensures.value c.leaf_ref.ensures.fits;
        short = subst IsShort c.leaf_ref.ensures.value c.in_ok-push_value.ensures.short;
      });
    }
