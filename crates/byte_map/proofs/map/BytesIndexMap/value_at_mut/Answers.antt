use Rattle.std.proofs.Common.{◌∙◌, arith, sym, ap, refl, slice_get, option_map}
use Rattle.byte_map.specs.Entries.{Map, values_of}
use Rattle.byte_map.specs.Lending.{with_value}
use Rattle.byte_map.proofs.Seen.{length-set_value, seen_written, value_seen}
use Rattle.byte_map.proofs.map.BytesIndexMap.value_at_mut.Goals as goal

pub invariant_of-self-lent : goal.invariant_of-self-lent
invariant_of-self-lent g c = λ w. omega (arith, c.self.invariant, length-set_value c.self.inside.kept.entries c.args.i (record { hash = c.index_mut.result.now.hash; value = w }))

pub returns : goal.returns
returns g c =
    let es = c.self.inside.kept.entries in
    let i = c.args.i in (
      (refl, λ w. ap (λ entries. record { entries = entries }) (seen_written es i c.index_mut.result.now w c.index_mut.ensures.value ∙ ap (λ m. with_value m.entries i w) c.self.view_is)),
      record {
        writes_back = tt;
        value = sym (ap (λ m. slice_get (values_of m.entries) i) c.self.view_is) ∙ value_seen es i ∙ ap (option_map (λ k. k.value)) c.index_mut.ensures.value;
      },
    )
