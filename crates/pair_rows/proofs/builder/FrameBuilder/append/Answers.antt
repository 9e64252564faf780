use Rattle.std.proofs.Common.{ℕ, ◌+◌, List, ◌++◌, length, sym, ap, ◌∙◌, subst, arith}
use Rattle.col_core.specs.declared.schema.Field.{Field}
use Rattle.col_core.specs.Tables.{Row, Table}
use Rattle.pair_rows.specs.Growing.{AreGrowing, ExtendedUpTo, growing_rows}
use Rattle.pair_rows.proofs.Growing.{growing_extended, growing_long, rows_extended, source_type}
use Rattle.pair_rows.proofs.builder.FrameBuilder.append.Goals as goal

pub extend_from_range-requires-clause-same_type : goal.extend_from_range-requires-clause-same_type
extend_from_range-requires-clause-same_type c =
    let same = c.requires.schema ∙ sym (ap (λ (t : Table). t.schema) c.self.view_is) in
    source_type c.self.inside.schema c.self.inside.height c.loop-i.i c.self.inside.columns.items c.loop-i.columns.items c.args.rows.now c.column.result.now c.index_mut.result.now c.self.invariant same c.loop-i.invariant
    (omega (arith, c.loop-i-test.true, c.len-i-end.ensures, c.loop-i.invariant.long)) c.index_mut.ensures.value c.column.ensures.header

pub overflow_add-result : goal.overflow_add-result
overflow_add-result c =
    omega (arith, c.requires.few, growing_long c.self.inside.columns.items c.self.inside.height, ap (λ (t : Table). length t.rows) c.self.view_is, c.height-2.ensures.height)

pub invariant_of-result : goal.invariant_of-result
invariant_of-result c =
    let olds = c.self.inside.columns.items in
    let grown : ExtendedUpTo c.args.rows.now (length olds) olds c.loop-i.columns.items = subst (λ (n : ℕ). ExtendedUpTo c.args.rows.now n olds c.loop-i.columns.items) (omega (arith, c.loop-i-test.false, c.loop-i.auto.i-end, c.len-i-end.ensures)) c.loop-i.invariant in
    let same = c.requires.schema ∙ sym (ap (λ (t : Table). t.schema) c.self.view_is) in
    subst (λ (n : ℕ). AreGrowing c.self.inside.schema c.loop-i.columns.items (c.self.inside.height + n)) (sym c.height-2.ensures.height) (growing_extended c.self.inside.schema c.self.inside.height olds c.loop-i.columns.items c.args.rows.now c.self.invariant same grown)

pub returns : goal.returns
returns c =
    let olds = c.self.inside.columns.items in
    let table : List Field → List Row → Table = λ schema rows. record { schema = schema; rows = rows } in
    let grown : ExtendedUpTo c.args.rows.now (length olds) olds c.loop-i.columns.items = subst (λ (n : ℕ). ExtendedUpTo c.args.rows.now n olds c.loop-i.columns.items) (omega (arith, c.loop-i-test.false, c.loop-i.auto.i-end, c.len-i-end.ensures)) c.loop-i.invariant in
    let same = c.requires.schema ∙ sym (ap (λ (t : Table). t.schema) c.self.view_is) in
    ap (λ (n : ℕ). table c.self.inside.schema (growing_rows c.loop-i.columns.items (c.self.inside.height + n))) c.height-2.ensures.height
    ∙ ap (table c.self.inside.schema) (rows_extended c.self.inside.schema c.self.inside.height olds c.loop-i.columns.items c.args.rows.now c.self.invariant same grown c.height-2.ensures.wide)
    ∙ ap (λ (t : Table). table t.schema (t.rows ++ c.args.rows.now.rows)) c.self.view_is
