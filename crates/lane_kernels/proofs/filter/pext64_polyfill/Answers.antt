use Rattle.std.proofs.Common.{◌≡◌, ◌≢◌, ◌<◌, ◌/◌, ◌^◌, bit_and, ap, sym, ◌∙◌, arith}
use Rattle.std.specs.Int.{bit_at}
use Rattle.lane_kernels.specs.Positions.{word_bits, word_of}
use Rattle.lane_kernels.proofs.Filtered.{filtered_all}
use Rattle.lane_kernels.proofs.Words.{place_left, all_counted, bit_kept, bit_passed, count_kept, count_passed, lowest_bit}
use Rattle.lane_kernels.proofs.filter.pext64_polyfill.Goals as goal
use Rattle.lane_kernels.proofs.filter.pext64_polyfill.Goals.{then-mask-i-eq1, else-mask-i-eq1}

pub overflow_shr-mask : goal.overflow_shr-mask
overflow_shr-mask c = place_left c.args.mask c.loop-kept.i c.ranges.mask.fits c.loop-kept.invariant.within (omega arith)

pub loop-kept-smaller : goal.loop-kept-smaller
loop-kept-smaller c = omega (arith, place_left c.args.mask c.loop-kept.i c.ranges.mask.fits c.loop-kept.invariant.within (omega arith))

pub loop-kept-preserved : goal.loop-kept-preserved
loop-kept-preserved c =
    let word = c.args.word in
    let mask = c.args.mask in
    let i = c.loop-kept.i in
    let place : i < 64 = place_left mask i c.ranges.mask.fits c.loop-kept.invariant.within (omega arith) in
    elim c.if-mask-i-eq1.branch [
      | then-mask-i-eq1 w ↦
          let set : bit_at mask i ≡ 1 = sym (lowest_bit mask i) ∙ w.if-mask-i-eq1.true in
          rw (w.out-is, w.kept-is) (record {
            word = bit_kept word mask i c.loop-kept.out c.loop-kept.kept (bit_and (word / 2 ^ i) 1) place c.loop-kept.invariant.word c.loop-kept.invariant.kept set (lowest_bit word i);
            kept = count_kept mask i c.loop-kept.kept place c.loop-kept.invariant.kept set;
            within = omega arith;
          })
      | else-mask-i-eq1 w ↦
          let unset : bit_at mask i ≢ 1 = λ e. w.if-mask-i-eq1.false (lowest_bit mask i ∙ e) in
          rw (w.out-is, w.kept-is) (record {
            word = bit_passed word mask i c.loop-kept.out place c.loop-kept.invariant.word unset;
            kept = count_passed mask i c.loop-kept.kept place c.loop-kept.invariant.kept unset;
            within = omega arith;
          })
    ]

pub returns : goal.returns
returns c =
    c.loop-kept.invariant.word ∙ ap word_of (filtered_all (word_bits c.args.word) (word_bits c.args.mask) c.loop-kept.i (all_counted c.args.mask c.loop-kept.i c.ranges.mask.fits (omega arith)))
