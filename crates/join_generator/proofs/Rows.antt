-- Columns of numbers, and the rows of two of them.
use Rattle.std.proofs.Common.{◌≡◌, ℕ, ◌<◌, ◌^◌, ℤ, Bool, List, [], ◌∷◌, map, length, refl, sym, ap, ap₂, ◌∙◌, Result, Ok, Err, IfOk}
use Rattle.std.specs.List.{All, range_with_len}
use Rattle.std.proofs.lemmas.List.{length-map}
use Rattle.std.proofs.lemmas.List.FromFn.{length-map-range_with_len, length-range_with_len}
use Rattle.std.proofs.lemmas.List.Elements.{All-nil, All-cons, All-weaker}
use mathlib.Core.List.{map-map}
use Rattle.col_arrays.specs.Items.{all_present}
use Rattle.col_core.specs.declared.leaf.Leaf.{Leaf}
use Rattle.col_core.specs.declared.leaf.Leaf.TheVariants as leaves
use Rattle.col_core.specs.declared.chunk.Chunk.TheVariants as chunks
use Rattle.col_core.specs.declared.data_type.DataType.TheVariants.{Int64}
use Rattle.col_core.specs.declared.data_type.PhysicalType.TheVariants as kept
use Rattle.col_core.specs.declared.schema.Field.{Field}
use Rattle.col_core.specs.Physical.{IsKept}
use Rattle.col_core.specs.Values.{Fits}
use Rattle.col_core.specs.Tables.{Row, Table, Column, header, rows_from, chunk_leaves, leaves_of, AreChunksOf, AreColumnsOf}
use Rattle.col_core.proofs.Leaves.{one_chunk, leaves_of_one}
use Rattle.col_core.proofs.Rows.{transposed}
use Rattle.join_generator.specs.Generated.{number_row}

-- numbers as values
abbrev pub wholes : List ℤ → List Leaf
wholes zs = map (λ z. leaves.Whole z) zs

kept_fits : (v : Leaf) → IsKept kept.I64 v → Fits Int64 v
kept_fits leaves.Null h = tt
kept_fits (leaves.Bool b) h = absurd h
kept_fits (leaves.Whole z) h = h
kept_fits (leaves.Bytes b) h = absurd h

-- a chunk of numbers makes a column
pub number_chunk : (items : List (ℤ × Bool)) → All (IsKept kept.I64) (chunk_leaves (chunks.I64 items)) → length (chunk_leaves (chunks.I64 items)) < 2 ^ 64 → AreChunksOf Int64 (chunks.I64 items ∷ [])
number_chunk items h small = one_chunk Int64 (chunks.I64 items) refl (All-weaker (IsKept kept.I64) (Fits Int64) kept_fits (chunk_leaves (chunks.I64 items)) h) small

pub number_values : (zs : List ℤ) → leaves_of (chunks.I64 (all_present zs) ∷ []) ≡ wholes zs
number_values zs = leaves_of_one (chunks.I64 (all_present zs)) ∙ present zs
  where
    present : (xs : List ℤ) → chunk_leaves (chunks.I64 (all_present xs)) ≡ wholes xs
    present [] = refl
    present (x ∷ xs) = ap (λ (vs : List Leaf). leaves.Whole x ∷ vs) (present xs)

-- two columns of one length stand under their headers
pub are_columns : (a b : Column) (first second : Field) (n : ℕ) (schema : List Field) (columns : List Column) → schema ≡ first ∷ second ∷ [] → columns ≡ a ∷ b ∷ []
    → header a ≡ first → header b ≡ second → length a.values ≡ n → length b.values ≡ n → All (Fits a.dtype) a.values → All (Fits b.dtype) b.values
    → AreColumnsOf schema columns n
are_columns a b first second n schema columns s t h g l m f k =
    let Long : Column → Type 0 = λ x. length x.values ≡ n in
    let AllFit : Column → Type 0 = λ x. All (Fits x.dtype) x.values in
    rw (s, t) record {
      headers = ap₂ (λ (x y : Field). x ∷ y ∷ []) h g;
      lengths = All-cons Long a (b ∷ []) l (All-cons Long b [] m (All-nil Long));
      fits = All-cons AllFit a (b ∷ []) f (All-cons AllFit b [] k (All-nil AllFit));
    }

pub wholes_long : (zs : List ℤ) → length (wholes zs) ≡ length zs
wholes_long zs = length-map zs (λ (z : ℤ). leaves.Whole z)

-- the rows of two columns that are given by number
rows_are : (f g : ℕ → ℤ) (xs : List ℕ) → rows_from (length xs) (wholes (map f xs) ∷ wholes (map g xs) ∷ []) ≡ map (λ i. number_row (f i) (g i)) xs
rows_are f g xs =
    ap₂ (λ (a b : List Leaf). rows_from (length xs) (a ∷ b ∷ [])) (map-map (λ (z : ℤ). leaves.Whole z) f xs) (map-map (λ (z : ℤ). leaves.Whole z) g xs)
    ∙ transposed (λ (h : ℕ → Leaf) (i : ℕ). h i) ((λ i. leaves.Whole (f i)) ∷ (λ i. leaves.Whole (g i)) ∷ []) xs

pub same_length : (f g : ℕ → ℤ) (n : ℕ) (a b : List ℤ) → a ≡ map f (range_with_len 0 n) → b ≡ map g (range_with_len 0 n) → length a ≡ length b
same_length f g n a b d e = ap length d ∙ length-map-range_with_len f 0 n ∙ sym (length-map-range_with_len g 0 n) ∙ sym (ap length e)

table_is : (t : Table) (schema : List Field) (f g : ℕ → ℤ) (n : ℕ) (a b : List ℤ) → a ≡ map f (range_with_len 0 n) → b ≡ map g (range_with_len 0 n)
    → t.schema ≡ schema → t.rows ≡ rows_from (length a) (wholes a ∷ wholes b ∷ [])
    → t ≡ record { schema = schema; rows = map (λ i. number_row (f i) (g i)) (range_with_len 0 n) }
table_is t schema f g n a b d e s r =
    let xs = range_with_len 0 n in
    let long : length a ≡ length xs = ap length d ∙ length-map xs f in
    let rows : t.rows ≡ map (λ i. number_row (f i) (g i)) xs = r ∙ rw (long, d, e) (rows_are f g xs) in
    ap₂ (λ (x : List Field) (y : List Row). let made : Table = record { schema = x; rows = y } in made) s rows

-- the same of a frame that may not have been made
pub frame_is : {E : Type 0} (r : Result Table E) (schema : List Field) (f g : ℕ → ℤ) (n : ℕ) (a b : List ℤ) → a ≡ map f (range_with_len 0 n) → b ≡ map g (range_with_len 0 n)
    → IfOk r (λ t. t.schema ≡ schema) → IfOk r (λ t. t.rows ≡ rows_from (length a) (wholes a ∷ wholes b ∷ []))
    → IfOk r (λ t. t ≡ record { schema = schema; rows = map (λ i. number_row (f i) (g i)) (range_with_len 0 n) })
frame_is (Ok t) schema f g n a b d e s h = table_is t schema f g n a b d e s h
frame_is (Err x) schema f g n a b d e s h = tt

pub ruleset one_column = (number_chunk, number_values)

pub ruleset two_columns = (same_length)
