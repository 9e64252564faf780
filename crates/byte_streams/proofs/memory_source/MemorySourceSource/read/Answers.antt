use Rattle.std.proofs.Common.{◌<◌, ◌++◌, Some, length, take, drop, ap, sym, ◌∙◌, arith}
use Rattle.std.proofs.lemmas.List.{take_rest, drop-drop}
use Rattle.std.proofs.lemmas.Bool.{eqb-false}
use Rattle.byte_streams.proofs.Pieces.{copied_front}
use Rattle.byte_streams.proofs.memory_source.MemorySourceSource.read.Goals as goal

pub returns-clause-took : goal.returns-clause-took
returns-clause-took c =
    let s = c.self.inside in
    let n = c.copy_front-count.result in
    let left = drop s.taken s.bytes.items in
    let new = c.copy_front-count.new.to in
    let copy = rw (take_rest, c.deref.ensures.value) at c.copy_front-count.ensures in
    let test = rw (take_rest, c.deref.ensures.value) at c.is_empty.ensures in
    let more : 0 < length left = omega (arith, eqb-false (length left) 0 (sym test ∙ c.if-is_empty.false)) in
    let front = copied_front s.piece n left c.args.buf.now new (omega arith) (omega arith) more copy.count copy.copied in
    (front.some, front.within, ap Some (sym (ap (λ v. v.left) c.self.view_is) ∙ (front.front ∙ ap (λ xs. take n new ++ xs) (drop-drop n s.taken s.bytes.items))))
