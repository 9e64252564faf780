use Rattle.std.proofs.Common.{◌≡◌, ◌∙◌, ◌++◌, ◌&&◌, refl, ap, sym, map, List, ℕ, Bool, Option, Some, None, option_copied}
use Rattle.std.specs.Borrow.{Bor}
use Rattle.std.proofs.lemmas.Result.{on_ok_weaker}
use Rattle.key_parts.specs.Positions.{Position}
use Rattle.chunked_idx_table.specs.Tables.{ProbeTable}
use Rattle.chunked_idx_table.specs.Probes.{matches, marked_more, is_key}
use Rattle.chunked_idx_table.specs.Words.{position_kept}
use Rattle.chunked_idx_table.proofs.Kept.{beside_each}
use Rattle.chunked_idx_table.proofs.Marks.{null_unmarked, absent_unmarked, nothing_marked}
use Rattle.chunked_idx_table.proofs.row_encoded.RowEncodedChunkedIdxTable.answer.Goals as goal

abbrev marked_as : Bool → ProbeTable → Option (Bor (List ℕ)) → ProbeTable
marked_as marks t key = marked_more (λ k. marks && is_key k (option_copied key)) t

pub returns-in_default-clause-marked : goal.returns-in_default-clause-marked
returns-in_default-clause-marked g c =
    let e = null_unmarked c.args.marks c.args.self.now ∙ ap (marked_as c.args.marks c.args.self.now) (sym c.in_default.is) in
    on_ok_weaker c.push_unmatched.result (λ _. e) c.push_unmatched.ensures.positions

pub returns-in_default-find-clause-marked : goal.returns-in_default-find-clause-marked
returns-in_default-find-clause-marked g c =
    let t = c.args.self.now in
    let e = absent_unmarked c.args.marks c.in-Some.key.now t (c.in_default-find.ensures.unmarked refl) ∙ ap (marked_as c.args.marks t) (sym c.in-Some.is) in
    on_ok_weaker c.push_unmatched-in_default-find.result (λ _. e) c.push_unmatched-in_default-find.ensures.positions

pub returns-then-marks-clause-indexes : goal.returns-then-marks-clause-indexes
returns-then-marks-clause-indexes g c =
    let es = c.args.self.now.entries in
    let m : matches es c.args.emit (option_copied c.args.key) ≡ map (λ w. Some (position_kept w)) c.words.result.now = ap (λ (key : Option (Bor (List ℕ))). matches es c.args.emit (option_copied key)) c.in-Some.is ∙ c.words.ensures c.in-Some.key.now c.args.emit (sym c.in-Some-find.ensures.at) in
    c.in_ok-push_matches.ensures.indexes ∙ ap (λ xs. c.args.probe_match.now.items ++ xs) (sym (ap (map (λ _. c.args.index)) m ∙ beside_each c.args.index (λ w. Some (position_kept w)) c.words.result.now))

pub returns-else-marks-clause-indexes : goal.returns-else-marks-clause-indexes
returns-else-marks-clause-indexes g c =
    let es = c.args.self.now.entries in
    let m : matches es c.args.emit (option_copied c.args.key) ≡ map (λ w. Some (position_kept w)) c.words.result.now = ap (λ (key : Option (Bor (List ℕ))). matches es c.args.emit (option_copied key)) c.in-Some.is ∙ c.words.ensures c.in-Some.key.now c.args.emit (sym c.in-Some-find.ensures.at) in
    c.in_ok-push_matches.ensures.indexes ∙ ap (λ xs. c.args.probe_match.now.items ++ xs) (sym (ap (map (λ _. c.args.index)) m ∙ beside_each c.args.index (λ w. Some (position_kept w)) c.words.result.now))

pub returns-else-marks-clause-marked : goal.returns-else-marks-clause-marked
returns-else-marks-clause-marked g c = sym (ap (λ (b : Bool). marked_as b c.args.self.now c.args.key) c.if-marks.false ∙ nothing_marked c.args.self.now)
