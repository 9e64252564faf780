use Rattle.std.proofs.Common.{ap, sym, ◌∙◌}
use Rattle.std.proofs.lemmas.Result.{on_ok_weaker}
use Rattle.col_core.specs.declared.data_type.PhysicalType.TheVariants as kept
use Rattle.col_core.specs.declared.leaf.Leaf.TheVariants as leaves
use Rattle.col_core.specs.Lent.{lent_leaf}
use Rattle.col_core.specs.Values.{is_text}
use Rattle.reduce_states.specs.States.{one, present}
use Rattle.group_reduce.specs.Reducing.{TakesOne}
use Rattle.kept_values.specs.Kept.{bytes_or_null}
use Rattle.kept_values.proofs.Types.{fits_kept_as, fits_text}
use Rattle.reduce_min_max.proofs.Best.{entered, one_present, takes_null}
use Rattle.reduce_min_max.proofs.Scanned.{no_bytes_lent}
use Rattle.reduce_min_max.proofs.bytes.BinaryReducerReducer.reduce_one.Goals as goal

pub returns-in-Bytes-clause-ok : goal.returns-in-Bytes-clause-ok
unfolding TakesOne
returns-in-Bytes-clause-ok g c =
    let k = g.S.Side.kind in
    let old = bytes_or_null c.args.a.now in
    let new = bytes_or_null c.enter.new.kept in
    let leaf = lent_leaf c.args.b in
    let w = leaves.Bytes c.in-Bytes.bytes.now in
    let skips = g.met.S.Side.kind_law in
    on_ok_weaker c.enter.result (λ e t n x f h. entered k t x (one k t (record { number = n; value = leaf })) old w new skips h (one_present k t n leaf skips ∙ ap present (ap lent_leaf c.in-Bytes.is)) e) c.enter.ensures.ok

pub returns-in-Bytes-clause-fits : goal.returns-in-Bytes-clause-fits
returns-in-Bytes-clause-fits g c = λ t f h.
    c.enter.ensures.fits t h (ap (is_text t) (sym (ap lent_leaf c.in-Bytes.is)) ∙ fits_text t (lent_leaf c.args.b) f)

pub returns-in_default-clause-ok : goal.returns-in_default-clause-ok
unfolding TakesOne
returns-in_default-clause-ok g c = λ t n x e h.
    let served = c.requires.served in
    let leaf = lent_leaf c.args.b in
    let nothing = no_bytes_lent c.args.b (fits_kept_as kept.Bytes served.0 leaf served.1 served.2) c.in_default.not-Bytes in
    takes_null g.S.Side.kind t n x leaf g.met.S.Side.kind_law nothing ∙ h
