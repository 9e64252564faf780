use Rattle.std.proofs.Common.{rules, ◌≡◌, ℕ, ◌+◌, ◌<◌, List, [], ◌++◌, ◌∷◌, map, length, take, ap, ap₂, sym, ◌∙◌, arith, take_all, Vec, Global}
use Rattle.std.specs.List.{flat_map, range_with_len}
use Rattle.std.proofs.lemmas.List.FromFn.{map-range_with_len_more}
use Rattle.list_laws.proofs.Cuts.{cut_made}
use Rattle.list_laws.proofs.Lists.{flat_map_more, flat_map_front}
use Rattle.list_laws.specs.Cuts.{cut}
use Rattle.join_tables.proofs.places.FramePlaces.new.Goals as goal

abbrev its : Vec ℕ Global → List ℕ
its v = v.items

pub overflow_cast-len : goal.overflow_cast-len
overflow_cast-len c =
    let i = c.loop-list.list-index in
    let more = flat_map_more its c.args.lists.now i c.list-item.result c.list-item.is (search rules) in
    let rows : c.extend_from_slice.new.self.items ≡ flat_map its (take (i + 1) c.args.lists.now) = c.in_ok-extend_from_slice.ensures.items ∙ ap₂ (λ (a b : List ℕ). a ++ b) c.loop-list.invariant.rows_are c.deref.ensures.value ∙ sym more in
    let front = flat_map_front its c.args.lists.now (i + 1) in
    let small : length c.extend_from_slice.new.self.items < 4294967296 = omega (arith, ap length rows, front) in
    search rules

pub loop-list-preserved : goal.loop-list-preserved
loop-list-preserved c =
    let i = c.loop-list.list-index in
    let lists = c.args.lists.now in
    let more = flat_map_more its lists i c.list-item.result c.list-item.is (search rules) in
    let rows : c.extend_from_slice.new.self.items ≡ flat_map its (take (i + 1) lists) = c.in_ok-extend_from_slice.ensures.items ∙ ap₂ (λ (a b : List ℕ). a ++ b) c.loop-list.invariant.rows_are c.deref.ensures.value ∙ sym more in
    let len : c.len.result ≡ length c.extend_from_slice.new.self.items = search rules in
    let long : c.len.result ≡ length (flat_map its (take (i + 1) lists)) = len ∙ ap length rows in
    record {
      rows_are = rows;
      starts_are = c.in_ok-push-2.ensures.items ∙ ap₂ (λ (a : List ℕ) (n : ℕ). a ++ n ∷ []) c.loop-list.invariant.starts_are long ∙ sym (map-range_with_len_more (λ j. length (flat_map its (take j lists))) 0 (i + 1) (i + 1) (omega arith));
    }

pub returns : goal.returns
returns c =
    let lists = c.args.lists.now in
    let n : c.loop-list.list-index ≡ length lists = omega arith in
    ap₂ cut (c.loop-list.invariant.starts_are ∙ ap (λ m. map (λ j. length (flat_map its (take j lists))) (range_with_len 0 (m + 1))) n) (c.loop-list.invariant.rows_are ∙ ap (flat_map its) (take_all c.loop-list.list-index lists (omega arith)))
    ∙ cut_made its lists
