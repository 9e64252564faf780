use Rattle.std.proofs.Common.{◌≡◌, ◌<◌, ◌∙◌, ℕ, map, length, ap, subst, Bor}
use Rattle.std.proofs.lemmas.List.{length-map}
use Rattle.col_core.specs.declared.series.Series.{Series}
use Rattle.col_core.specs.Places.{IsWithin}
use Rattle.col_core.proofs.Places.{list_within, same_kind}
use Rattle.col_core.proofs.gather.push_picked.Goals as goal

pub push_from-requires-clause-same_kind : goal.push_from-requires-clause-same_kind
push_from-requires-clause-same_kind c =
    let i = c.in-Some.place.frame in
    let source = c.index-sources-place.result in
    let lists = map (λ (s : Bor Series). s.now.values) c.args.sources.now in
    let there : i < length c.args.sources.now = subst (λ (n : ℕ). i < n) (length-map c.args.sources.now (λ (s : Bor Series). s.now.values)) (list_within lists i c.in-Some.place.row (subst (IsWithin lists) c.in-Some.is c.requires.within)) in
    let typed : source.now.dtype ≡ c.args.dtype = ap (λ (s : Bor Series). s.now.dtype) c.index-sources-place.is ∙ c.requires.types i source there in
    same_kind c.args.dtype source.now.dtype c.chunk_at-row.result.0.now c.args.gathered.now typed c.chunk_at-row.ensures.kind c.requires.kind
