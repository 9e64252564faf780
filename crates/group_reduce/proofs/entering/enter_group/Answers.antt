use Rattle.std.proofs.Common.{◌≡◌, true, get_or, refl, sym, subst}
use Rattle.std.proofs.lemmas.List.Elements.{All-set}
use Rattle.std.proofs.lemmas.Result.{on_ok_weaker, on_err_weaker}
use Rattle.reduce_states.specs.States.{start, after}
use Rattle.reduce_states.specs.Moves.{numbered}
use Rattle.group_reduce.specs.Reducing.{TakesAll}
use Rattle.group_reduce.proofs.Kept.{found, stayed, AllZip-set}
use Rattle.group_reduce.proofs.entering.enter_group.Goals as goal

pub returns-clause-fit : goal.returns-clause-fit
returns-clause-fit g c =
    let t = c.args.values.now.dtype in
    let fits = g.R.Reducer.fits in
    All-set (λ v. fits t v ≡ true) c.args.kept.now.items c.args.group_idx c.reduce_ca.new.v
    (c.reduce_ca.ensures.fits (subst (λ v. fits t v ≡ true) (sym c.index_mut.ensures.value) (c.requires.fit c.args.group_idx c.index_mut.result.now c.requires.place)))
    c.requires.fit

pub returns-clause-ok : goal.returns-clause-ok
unfolding TakesAll
returns-clause-ok g c = on_ok_weaker c.reduce_ca.result (λ takes. λ t xs h.
    let R = g.R.Reducer.stands in
    let k = g.R.Reducer.kind in
    let vs = c.args.kept.now.items in
    let old = get_or xs c.args.group_idx (start k t) in
    let mine = found R vs xs c.args.group_idx c.index_mut.result.now (start k t) h c.requires.place c.index_mut.ensures.value in
    AllZip-set R vs xs c.args.group_idx c.reduce_ca.new.v (after k t old (numbered c.args.seq_id c.args.values.now.values)) h (takes t c.args.seq_id old refl mine)) c.reduce_ca.ensures.ok

pub returns-clause-err : goal.returns-clause-err
returns-clause-err g c = on_err_weaker c.reduce_ca.result (λ e. λ xs h.
    stayed g.R.Reducer.stands c.args.kept.now.items xs c.args.group_idx c.index_mut.result.now c.reduce_ca.new.v h c.index_mut.ensures.value e) c.reduce_ca.ensures.err
