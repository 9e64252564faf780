use Rattle.std.proofs.Common.{rules, ℕ, ◌+◌, ◌<◌, List, [], length, get_or, ap, ◌∙◌, arith}
use Rattle.std.proofs.lemmas.Grind.{get_or_default_zero}
use Rattle.list_laws.proofs.Cuts.{cut_item}
use Rattle.join_tables.proofs.places.FramePlaces.row.Goals as goal

pub index-requires : goal.index-requires
index-requires c =
    let p = cut_item c.self.inside.starts.items c.self.inside.rows.items c.args.partition c.args.number (rw c.self.view_is c.requires) in
    let h : c.args.partition < length c.self.inside.starts.items = p.0 in
    search rules

pub index-requires-2 : goal.index-requires-2
index-requires-2 c =
    let p = cut_item c.self.inside.starts.items c.self.inside.rows.items c.args.partition c.args.number (rw c.self.view_is c.requires) in
    let i = c.index.ensures ∙ get_or_default_zero c.self.inside.starts.items c.args.partition c.index.result.now p.0 in
    let h : c.index.result.now + c.args.number < length c.self.inside.rows.items = omega (arith, p.1) in
    search rules

pub returns : goal.returns
returns c =
    let p = cut_item c.self.inside.starts.items c.self.inside.rows.items c.args.partition c.args.number (rw c.self.view_is c.requires) in
    let i = c.index.ensures ∙ get_or_default_zero c.self.inside.starts.items c.args.partition c.index.result.now p.0 in
    let e = ap (λ n. get_or c.self.inside.rows.items (n + c.args.number) c.index-2.result.now) i in
    c.index-2.ensures ∙ e ∙ get_or_default_zero c.self.inside.rows.items (get_or c.self.inside.starts.items c.args.partition 0 + c.args.number) c.index-2.result.now p.1 ∙ p.2
    ∙ ap (λ (ls : List (List ℕ)). get_or (get_or ls c.args.partition []) c.args.number 0) c.self.view_is
