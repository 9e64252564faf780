use Rattle.std.proofs.Common.{◌≡◌, ◌+◌, ◌-◌, ◌<◌, ◌≤◌, get_or, ◌∙◌, ℕ, List, [], ◌∷◌, ◌++◌, length, drop, Some, None, true, false, ap, sym, subst, arith}
use Rattle.std.specs.Prelude.{Option}
use Rattle.std.proofs.Math.ListN.{drop_of_length-le}
use Rattle.std.proofs.lemmas.List.{length-append}
use Rattle.col_core.specs.declared.schema.Field.{Field}
use Rattle.row_code.specs.Spelling.{row_spelling}
use Rattle.row_code.proofs.Fronts.{RowLeaves, drop_field, value_of_row, row_on, row_back, row_none, row_all, front_of_leaves, leaves_of_front, spelling_of_front}
use Rattle.row_code.proofs.read.row_length.Goals as goal

false_true : false ≡ true → ⊥
false_true e = cc

none_some : (n : ℕ) → ◌≡◌ {A = Option ℕ} None (Some n) → ⊥
none_some n e = cc

pub returns-in-None-clause-front : goal.returns-in-None-clause-front
returns-in-None-clause-front c = λ n.
    let schema = c.args.schema.now in
    let k = c.loop-field.field-index in
    let f = c.field-item.result in (
      λ e. absurd (none_some n e),
      λ front.
          let at : drop k schema ≡ f ∷ drop (k + 1) schema = drop_field schema k f (c.field-item.is ∙ ap (λ (xs : List Field). get_or xs k f) c.fields-field-items.ensures) (subst (λ (xs : List Field). k < length xs) c.fields-field-items.ensures c.loop-field-test.true) in
          let leaves : RowLeaves (f ∷ drop (k + 1) schema) c.loop-field.rest.now front.rest = subst (λ (fs : List Field). RowLeaves fs c.loop-field.rest.now front.rest) at (c.loop-field.invariant.on front.rest (leaves_of_front schema c.args.bytes.now n front).0) in
          let has = value_of_row f (drop (k + 1) schema) c.loop-field.rest.now front.rest leaves in
          absurd (false_true (c.in-None.ensures.all has.0 has.1 has.2)),
    )

pub returns-in-None-clause-whole : goal.returns-in-None-clause-whole
returns-in-None-clause-whole c = λ e. absurd (none_some (length c.args.bytes.now) e)

pub loop-field-preserved : goal.loop-field-preserved
loop-field-preserved c =
    let schema = c.args.schema.now in
    let k = c.loop-field.field-index in
    let f = c.field-item.result in
    let at : drop k schema ≡ f ∷ drop (k + 1) schema = drop_field schema k f (c.field-item.is ∙ ap (λ (xs : List Field). get_or xs k f) c.fields-field-items.ensures) (subst (λ (xs : List Field). k < length xs) c.fields-field-items.ensures c.loop-field-test.true) in
    let rest = c.loop-field.rest.now in
    record {
      on = λ s leaves. row_on f (drop (k + 1) schema) _ rest c.in-Some.after.now s c.in-Some.ensures.found (subst (λ (fs : List Field). RowLeaves fs rest s) at (c.loop-field.invariant.on s leaves));
      back = λ s leaves. c.loop-field.invariant.back s (subst (λ (fs : List Field). RowLeaves fs rest s) (sym at) (row_back f (drop (k + 1) schema) _ rest c.in-Some.after.now s c.in-Some.ensures.found leaves));
    }

-- no more bytes are left than there were
fewer : (fields : List Field) (bytes rest : List ℕ) → RowLeaves fields bytes rest → length rest ≤ length bytes
fewer fields bytes rest leaves = omega (arith, ap length leaves.same, length-append (row_spelling fields leaves.row) rest)

pub overflow_sub-result : goal.overflow_sub-result
overflow_sub-result c =
    let schema = c.args.schema.now in
    let rest = c.loop-field.rest.now in
    let none : drop c.loop-field.field-index schema ≡ [] = drop_of_length-le schema (subst (λ (xs : List Field). length xs ≤ c.loop-field.field-index) c.fields-field-items.ensures c.loop-field-test.false) in
    fewer schema c.args.bytes.now rest (c.loop-field.invariant.back rest (subst (λ (fs : List Field). RowLeaves fs rest rest) (sym none) (row_all rest)))

some_same : (m n : ℕ) → Some m ≡ Some n → m ≡ n
some_same m n e = cc

pub returns-clause-front : goal.returns-clause-front
returns-clause-front c = λ n.
    let schema = c.args.schema.now in
    let bytes = c.args.bytes.now in
    let rest = c.loop-field.rest.now in
    let none : drop c.loop-field.field-index schema ≡ [] = drop_of_length-le schema (subst (λ (xs : List Field). length xs ≤ c.loop-field.field-index) c.fields-field-items.ensures c.loop-field-test.false) in
    let leaves = c.loop-field.invariant.back rest (subst (λ (fs : List Field). RowLeaves fs rest rest) (sym none) (row_all rest)) in
    let within = fewer schema bytes rest leaves in (
      λ e. let is : length bytes - length rest ≡ n = some_same (length bytes - length rest) n e in front_of_leaves schema bytes rest n leaves (omega arith),
      λ front.
          let pair = leaves_of_front schema bytes n front in
          let same : rest ≡ front.rest = row_none rest front.rest (subst (λ (fs : List Field). RowLeaves fs rest front.rest) none (c.loop-field.invariant.on front.rest pair.0)) in
          let long : length rest ≡ length front.rest = ap length same in
          let counted = pair.1 in
          ap Some (let e : length bytes - length rest ≡ n = omega arith in e),
    )

pub returns-clause-whole : goal.returns-clause-whole
returns-clause-whole c = λ e.
    let schema = c.args.schema.now in
    let bytes = c.args.bytes.now in
    let rest = c.loop-field.rest.now in
    let none : drop c.loop-field.field-index schema ≡ [] = drop_of_length-le schema (subst (λ (xs : List Field). length xs ≤ c.loop-field.field-index) c.fields-field-items.ensures c.loop-field-test.false) in
    let leaves = c.loop-field.invariant.back rest (subst (λ (fs : List Field). RowLeaves fs rest rest) (sym none) (row_all rest)) in
    let within = fewer schema bytes rest leaves in
    let is : length bytes - length rest ≡ length bytes = some_same (length bytes - length rest) (length bytes) e in
    spelling_of_front schema bytes (front_of_leaves schema bytes rest (length bytes) leaves (omega arith))
