use Rattle.std.proofs.Common.{◌≡◌, ◌∙◌, ℕ, ap, sym, subst, lit≤, arith}
use Rattle.std.specs.Prelude.{ℤ, pos, FitsSigned}
use Rattle.std.specs.Int.{w16, w32, w64, w128, cast_signed, cast_unsigned, FitsUnsignedBits}
use Rattle.std.proofs.lemmas.Int.{to_z-of_z, to_z_pos}
use Rattle.col_core.specs.declared.data_type.PhysicalType.{PhysicalType}
use Rattle.col_core.specs.declared.leaf.Leaf.TheVariants as leaves
use Rattle.col_core.specs.Physical.{IsKept}
use Rattle.row_code.specs.Spelling.{width_of}
use Rattle.row_code.proofs.Fronts.{small_bytes, read_signed, read_unsigned, wide_16, wide_32, wide_64}
use Rattle.row_code.proofs.read.read_whole.Goals as goal

pub returns-in-Some-split_first_chunk-clause-found : goal.returns-in-Some-split_first_chunk-clause-found
returns-in-Some-split_first_chunk-clause-found c =
    let keeps = λ (z : ℤ) (h : FitsSigned w16 z). subst (λ (k : PhysicalType). IsKept k (leaves.Whole z)) (sym c.in-I16.is) h in
    read_signed w16 c.args.kind c.args.bytes.now c.in-Some-split_first_chunk.front.now c.in-Some-split_first_chunk.rest.now c.from_le_bytes-in-Some-split_first_chunk.result _ (ap width_of c.in-I16.is) keeps wide_16 c.from_le_bytes-in-Some-split_first_chunk.ensures
    (λ fits wide. ap (λ (z : ℤ). cast_signed w128 (cast_unsigned w128 z)) (to_z-of_z w16 c.from_le_bytes-in-Some-split_first_chunk.result fits) ∙ to_z-of_z w128 c.from_le_bytes-in-Some-split_first_chunk.result wide) (record { front_is = c.in-Some-split_first_chunk.ensures.cases.0; rest_is = c.in-Some-split_first_chunk.ensures.cases.1; long = c.in-Some-split_first_chunk.ensures.cases.2 }) (small_bytes c.args.bytes.now c.type_inv.bytes)

pub returns-in-Some-split_first_chunk-2-clause-found : goal.returns-in-Some-split_first_chunk-2-clause-found
returns-in-Some-split_first_chunk-2-clause-found c =
    let keeps = λ (z : ℤ) (h : FitsSigned w32 z). subst (λ (k : PhysicalType). IsKept k (leaves.Whole z)) (sym c.in-I32.is) h in
    read_signed w32 c.args.kind c.args.bytes.now c.in-Some-split_first_chunk-2.front.now c.in-Some-split_first_chunk-2.rest.now c.from_le_bytes-in-Some-split_first_chunk-2.result _ (ap width_of c.in-I32.is) keeps wide_32 c.from_le_bytes-in-Some-split_first_chunk-2.ensures
    (λ fits wide. ap (λ (z : ℤ). cast_signed w128 (cast_unsigned w128 z)) (to_z-of_z w32 c.from_le_bytes-in-Some-split_first_chunk-2.result fits) ∙ to_z-of_z w128 c.from_le_bytes-in-Some-split_first_chunk-2.result wide) (record { front_is = c.in-Some-split_first_chunk-2.ensures.cases.0; rest_is = c.in-Some-split_first_chunk-2.ensures.cases.1; long = c.in-Some-split_first_chunk-2.ensures.cases.2 }) (small_bytes c.args.bytes.now c.type_inv.bytes)

pub returns-in-Some-split_first_chunk-3-clause-found : goal.returns-in-Some-split_first_chunk-3-clause-found
returns-in-Some-split_first_chunk-3-clause-found c =
    let keeps = λ (z : ℤ) (h : FitsSigned w64 z). subst (λ (k : PhysicalType). IsKept k (leaves.Whole z)) (sym c.in-I64.is) h in
    read_signed w64 c.args.kind c.args.bytes.now c.in-Some-split_first_chunk-3.front.now c.in-Some-split_first_chunk-3.rest.now c.from_le_bytes-in-Some-split_first_chunk-3.result _ (ap width_of c.in-I64.is) keeps wide_64 c.from_le_bytes-in-Some-split_first_chunk-3.ensures
    (λ fits wide. ap (λ (z : ℤ). cast_signed w128 (cast_unsigned w128 z)) (to_z-of_z w64 c.from_le_bytes-in-Some-split_first_chunk-3.result fits) ∙ to_z-of_z w128 c.from_le_bytes-in-Some-split_first_chunk-3.result wide) (record { front_is = c.in-Some-split_first_chunk-3.ensures.cases.0; rest_is = c.in-Some-split_first_chunk-3.ensures.cases.1; long = c.in-Some-split_first_chunk-3.ensures.cases.2 }) (small_bytes c.args.bytes.now c.type_inv.bytes)

pub returns-in-Some-split_first_chunk-4-clause-found : goal.returns-in-Some-split_first_chunk-4-clause-found
returns-in-Some-split_first_chunk-4-clause-found c =
    let keeps = λ (z : ℤ) (h : FitsSigned w128 z). subst (λ (k : PhysicalType). IsKept k (leaves.Whole z)) (sym c.in-I128.is) h in
    read_signed w128 c.args.kind c.args.bytes.now c.in-Some-split_first_chunk-4.front.now c.in-Some-split_first_chunk-4.rest.now c.from_le_bytes-in-Some-split_first_chunk-4.result _ (ap width_of c.in-I128.is) keeps (λ z h. h) c.from_le_bytes-in-Some-split_first_chunk-4.ensures
    (λ fits wide. to_z-of_z w128 c.from_le_bytes-in-Some-split_first_chunk-4.result wide) (record { front_is = c.in-Some-split_first_chunk-4.ensures.cases.0; rest_is = c.in-Some-split_first_chunk-4.ensures.cases.1; long = c.in-Some-split_first_chunk-4.ensures.cases.2 }) (small_bytes c.args.bytes.now c.type_inv.bytes)

pub returns-in-Some-split_first_chunk-6-clause-found : goal.returns-in-Some-split_first_chunk-6-clause-found
returns-in-Some-split_first_chunk-6-clause-found c =
    let keeps = λ (z : ℤ) (h : FitsUnsignedBits 16 z). subst (λ (k : PhysicalType). IsKept k (leaves.Whole z)) (sym c.in-U16.is) h in
    read_unsigned w16 c.args.kind c.args.bytes.now c.in-Some-split_first_chunk-6.front.now c.in-Some-split_first_chunk-6.rest.now c.from_le_bytes-in-Some-split_first_chunk-6.result _ (ap width_of c.in-U16.is) keeps c.from_le_bytes-in-Some-split_first_chunk-6.ensures
    (λ below. to_z_pos w128 c.from_le_bytes-in-Some-split_first_chunk-6.result (omega arith)) (record { front_is = c.in-Some-split_first_chunk-6.ensures.cases.0; rest_is = c.in-Some-split_first_chunk-6.ensures.cases.1; long = c.in-Some-split_first_chunk-6.ensures.cases.2 }) (small_bytes c.args.bytes.now c.type_inv.bytes)

pub returns-in-Some-split_first_chunk-7-clause-found : goal.returns-in-Some-split_first_chunk-7-clause-found
returns-in-Some-split_first_chunk-7-clause-found c =
    let keeps = λ (z : ℤ) (h : FitsUnsignedBits 32 z). subst (λ (k : PhysicalType). IsKept k (leaves.Whole z)) (sym c.in-U32.is) h in
    read_unsigned w32 c.args.kind c.args.bytes.now c.in-Some-split_first_chunk-7.front.now c.in-Some-split_first_chunk-7.rest.now c.from_le_bytes-in-Some-split_first_chunk-7.result _ (ap width_of c.in-U32.is) keeps c.from_le_bytes-in-Some-split_first_chunk-7.ensures
    (λ below. to_z_pos w128 c.from_le_bytes-in-Some-split_first_chunk-7.result (omega arith)) (record { front_is = c.in-Some-split_first_chunk-7.ensures.cases.0; rest_is = c.in-Some-split_first_chunk-7.ensures.cases.1; long = c.in-Some-split_first_chunk-7.ensures.cases.2 }) (small_bytes c.args.bytes.now c.type_inv.bytes)

pub returns-in-Some-split_first_chunk-8-clause-found : goal.returns-in-Some-split_first_chunk-8-clause-found
returns-in-Some-split_first_chunk-8-clause-found c =
    let keeps = λ (z : ℤ) (h : FitsUnsignedBits 64 z). subst (λ (k : PhysicalType). IsKept k (leaves.Whole z)) (sym c.in-U64.is) h in
    read_unsigned w64 c.args.kind c.args.bytes.now c.in-Some-split_first_chunk-8.front.now c.in-Some-split_first_chunk-8.rest.now c.from_le_bytes-in-Some-split_first_chunk-8.result _ (ap width_of c.in-U64.is) keeps c.from_le_bytes-in-Some-split_first_chunk-8.ensures
    (λ below. to_z_pos w128 c.from_le_bytes-in-Some-split_first_chunk-8.result (omega arith)) (record { front_is = c.in-Some-split_first_chunk-8.ensures.cases.0; rest_is = c.in-Some-split_first_chunk-8.ensures.cases.1; long = c.in-Some-split_first_chunk-8.ensures.cases.2 }) (small_bytes c.args.bytes.now c.type_inv.bytes)
