-- The list of a partition, as a loop reads it.
use Rattle.std.proofs.Common.{◌≡◌, ℕ, ◌+◌, ◌<◌, List, [], map, length, get_or, take, flat_map, refl, sym, ap, ◌∙◌, arith, Vec, Global}
use Rattle.std.proofs.lemmas.List.{get_or-map, length-append}
use Rattle.std.proofs.lemmas.List.Folds.{flat_map-map}
use Rattle.list_laws.proofs.Lists.{flat_map_more}

abbrev pub its : Vec ℕ Global → List ℕ
its v = v.items

pub list_is : (lists : List (Vec ℕ Global)) (p : ℕ) (v : Vec ℕ Global) (now : List ℕ) → v ≡ get_or lists p v → p < length lists → now ≡ v.items → now ≡ get_or (map its lists) p []
list_is lists p v now e h d = d ∙ ap its e ∙ sym (get_or-map its lists p v [] h)

-- the rows of one list more
pub rows_more : (lists : List (Vec ℕ Global)) (p : ℕ) (v : Vec ℕ Global) → v ≡ get_or lists p v → p < length lists → length (flat_map its (take (p + 1) lists)) ≡ length (flat_map its (take p lists)) + length (get_or (map its lists) p [])
rows_more lists p v e h = omega (arith, ap length (flat_map_more its lists p v e h), length-append (flat_map its (take p lists)) v.items, ap length (list_is lists p v v.items e h refl))

pub rows_flat : (lists : List (Vec ℕ Global)) → flat_map its lists ≡ flat_map (λ l. l) (map its lists)
rows_flat lists = sym (flat_map-map (λ (l : List ℕ). l) its lists)
