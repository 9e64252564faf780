-- The values of a column that enter groups, chunk by chunk.
use Rattle.std.proofs.Common.{◌≡◌, ℕ, ◌+◌, ◌<◌, List, [], ◌∷◌, ◌++◌, map, length, take, drop, get_or, refl, sym, ap, ◌∙◌, subst, arith}
use Rattle.std.proofs.Math.ListN.{set}
use Rattle.std.proofs.Math.Seq.{take-append_seam, drop-append_seam}
use Rattle.std.specs.List.{All}
use Rattle.std.proofs.lemmas.List.{drop_more, map-append, take-append-drop}
use Rattle.std.proofs.lemmas.List.Elements.{All-take, All-drop}
use Rattle.std.proofs.lemmas.List.Sums.{fold-append}
use Rattle.col_core.specs.declared.leaf.Leaf.{Leaf}
use Rattle.col_core.specs.declared.chunk.Chunk.{Chunk}
use Rattle.col_core.specs.declared.data_type.DataType.{DataType}
use Rattle.col_core.specs.Tables.{chunk_leaves, leaves_of}
use Rattle.reduce_model.specs.declared.kind.ReductionKind.{ReductionKind}
use Rattle.reduce_states.specs.States.{Entry, State, start, one, merge, after}
use Rattle.reduce_states.specs.Moves.{entered, numbered, ones}
use Rattle.reduce_states.proofs.Moved.{length-ones}

-- items enter in two runs
pub entered-append : {A B : Type 0} (d : A) (M : A → B → A) (xs : List A) (gs hs : List ℕ) (ys zs : List B) → length gs ≡ length ys
    → entered d M xs (gs ++ hs) (ys ++ zs) ≡ entered d M (entered d M xs gs ys) hs zs
entered-append d M xs [] hs [] zs h = refl
entered-append d M xs [] hs (y ∷ ys) zs h = absurd (omega arith)
entered-append d M xs (g ∷ gs) hs [] zs h = absurd (omega arith)
entered-append d M xs (g ∷ gs) hs (y ∷ ys) zs h = entered-append d M (set xs g (M (get_or xs g d) y)) gs hs ys zs (omega arith)

numbered-append : (n : ℕ) (vs ws : List Leaf) → numbered n (vs ++ ws) ≡ numbered n vs ++ numbered n ws
numbered-append n vs ws = map-append (λ (v : Leaf). record { number = n; value = v }) vs ws

pub ones-append : (k : ReductionKind) (t : DataType) (n : ℕ) (vs ws : List Leaf) → ones k t n (vs ++ ws) ≡ ones k t n vs ++ ones k t n ws
ones-append k t n vs ws = ap (map (one k t)) (numbered-append n vs ws) ∙ map-append (one k t) (numbered n vs) (numbered n ws)

-- the values from a chunk on are its own and then those of the next chunks
pub leaves_next : (cs : List Chunk) (i : ℕ) (c : Chunk) → i < length cs → c ≡ get_or cs i c → leaves_of (drop i cs) ≡ chunk_leaves c ++ leaves_of (drop (i + 1) cs)
leaves_next cs i c h e = ap leaves_of (drop_more cs i c h) ∙ ap (λ (x : Chunk). chunk_leaves x ++ leaves_of (drop (i + 1) cs)) (sym e)

-- a chunk's values have entered
pub entered_chunk : (k : ReductionKind) (t : DataType) (xs zs : List State) (gs front back : List ℕ) (n : ℕ) (cs : List Chunk) (i : ℕ) (c : Chunk)
    → i < length cs → c ≡ get_or cs i c → front ≡ take (length (chunk_leaves c)) gs → back ≡ drop (length (chunk_leaves c)) gs → length front ≡ length (chunk_leaves c)
    → zs ≡ entered (start k t) (merge k t) xs front (ones k t n (chunk_leaves c))
    → entered (start k t) (merge k t) xs gs (ones k t n (leaves_of (drop i cs))) ≡ entered (start k t) (merge k t) zs back (ones k t n (leaves_of (drop (i + 1) cs)))
entered_chunk k t xs zs gs front back n cs i c h e f b l z =
    let d = start k t in
    let M = merge k t in
    let here = chunk_leaves c in
    let next = leaves_of (drop (i + 1) cs) in
    let whole : front ++ back ≡ gs = ap (λ (x : List ℕ). x ++ back) f ∙ ap (λ (x : List ℕ). take (length here) gs ++ x) b ∙ take-append-drop (length here) gs in
    ap (λ (x : List ℕ). entered d M xs x (ones k t n (leaves_of (drop i cs)))) (sym whole)
    ∙ ap (λ (vs : List Leaf). entered d M xs (front ++ back) (ones k t n vs)) (leaves_next cs i c h e)
    ∙ ap (entered d M xs (front ++ back)) (ones-append k t n here next)
    ∙ entered-append d M xs front back (ones k t n here) (ones k t n next) (l ∙ sym (length-ones k t n here))
    ∙ ap (λ (x : List State). entered d M x back (ones k t n next)) (sym z)

pub after_chunk : (k : ReductionKind) (t : DataType) (x y : State) (n : ℕ) (cs : List Chunk) (i : ℕ) (c : Chunk)
    → i < length cs → c ≡ get_or cs i c → y ≡ after k t x (numbered n (chunk_leaves c))
    → after k t x (numbered n (leaves_of (drop i cs))) ≡ after k t y (numbered n (leaves_of (drop (i + 1) cs)))
after_chunk k t x y n cs i c h e z =
    let step : State → Entry → State = λ (s : State) (v : Entry). merge k t s (one k t v) in
    let next = leaves_of (drop (i + 1) cs) in
    ap (λ (vs : List Leaf). after k t x (numbered n vs)) (leaves_next cs i c h e)
    ∙ ap (after k t x) (numbered-append n (chunk_leaves c) next)
    ∙ fold-append step x (numbered n (chunk_leaves c)) (numbered n next)
    ∙ ap (λ (s : State). after k t s (numbered n next)) (sym z)

-- what all values from a chunk on are, its own are, and those of the next chunks
pub all_here : (P : Leaf → Type 0) (cs : List Chunk) (i : ℕ) (c : Chunk) → i < length cs → c ≡ get_or cs i c → All P (leaves_of (drop i cs)) → All P (chunk_leaves c)
all_here P cs i c h e a =
    subst (All P) (take-append_seam (chunk_leaves c) (leaves_of (drop (i + 1) cs)))
    (All-take P (length (chunk_leaves c)) (chunk_leaves c ++ leaves_of (drop (i + 1) cs)) (subst (All P) (leaves_next cs i c h e) a))

pub all_next : (P : Leaf → Type 0) (cs : List Chunk) (i : ℕ) (c : Chunk) → i < length cs → c ≡ get_or cs i c → All P (leaves_of (drop i cs)) → All P (leaves_of (drop (i + 1) cs))
all_next P cs i c h e a =
    subst (All P) (drop-append_seam (chunk_leaves c) (leaves_of (drop (i + 1) cs)))
    (All-drop P (length (chunk_leaves c)) (chunk_leaves c ++ leaves_of (drop (i + 1) cs)) (subst (All P) (leaves_next cs i c h e) a))
