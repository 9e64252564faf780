use Rattle.std.proofs.Common.{◌∷◌, ◌++◌, List, [], Bool, ap, ap₂, ◌∙◌, arith}
use Rattle.std.proofs.lemmas.Result.{on_ok_weaker, on_err_weaker}
use Rattle.group_reduce.proofs.Kept.{on_err}
use Rattle.reduce_min_max.specs.Truths.{optional_bits}
use Rattle.reduce_min_max.proofs.OptionalBits.{cut_same, cut_length, bits_past, bits_push}
use Rattle.reduce_min_max.proofs.truths.Truths.push.Goals as goal

pub returns-in_err-push-clause-err : goal.returns-in_err-push-clause-err
returns-in_err-push-clause-err c =
    let vs = c.self.inside.values in
    let ms = c.self.inside.mask in
    on_err c.from_residual-in_err-push.result (ap (λ (bs : List Bool). optional_bits bs ms) c.in_err-push.ensures.err ∙ cut_same vs c.resize.new.self ms c.len.result c.self.invariant c.len.ensures c.in_ok-resize.ensures.ok ∙ c.self.view_is)

pub returns-clause-ok : goal.returns-clause-ok
returns-clause-ok c =
    let vs = c.self.inside.values in
    let ms = c.self.inside.mask in
    let cut = c.resize.new.self in
    let truth = c.args.truth in
    let same = cut_same vs cut ms c.len.result c.self.invariant c.len.ensures c.in_ok-resize.ensures.ok in
    let long = cut_length vs cut ms c.len.result c.self.invariant c.len.ensures c.in_ok-resize.ensures.ok in
    let values = c.in_ok-push.ensures.ok ∙ ap (λ (b : Bool). cut ++ b ∷ []) c.unwrap_or.ensures in
    on_ok_weaker c.push-2.result (λ e.
    ap₂ optional_bits values (e ∙ ap (λ (b : Bool). ms ++ b ∷ []) c.is_some.ensures) ∙ bits_push cut ms truth long
    ∙ ap (λ bs. bs ++ truth ∷ []) (same ∙ c.self.view_is)) c.push-2.ensures.ok

pub returns-clause-err : goal.returns-clause-err
returns-clause-err c =
    let vs = c.self.inside.values in
    let ms = c.self.inside.mask in
    let cut = c.resize.new.self in
    let same = cut_same vs cut ms c.len.result c.self.invariant c.len.ensures c.in_ok-resize.ensures.ok in
    let long = cut_length vs cut ms c.len.result c.self.invariant c.len.ensures c.in_ok-resize.ensures.ok in
    on_err_weaker c.push-2.result (λ e. ap₂ optional_bits c.in_ok-push.ensures.ok e ∙ bits_past cut (c.unwrap_or.result ∷ []) ms (omega (arith, long)) ∙ same ∙ c.self.view_is) c.push-2.ensures.err
