use Rattle.std.proofs.Common.{◌+◌, ◌*◌, ℤ, unsigned_abs, get_or, refl, ◌∙◌, ap, arith}
use Rattle.mpc_online.proofs.Filled.{entry_read}
use Rattle.mpc_online.proofs.SmallSums.{read_small, small_none, small_more, small_all}
use Rattle.mpc_online.proofs.opening.is_small_sum.Goals as goal

pub loop-index-init : goal.loop-index-init
loop-index-init c = record { small = omega arith; sums = λ x h. small_none c.over_theorems.ensures c.args.all c.requires.denom.some c.requires.denom.small c.sum_theorems.ensures c.args.entries.now x }

pub loop-index-preserved : goal.loop-index-preserved
loop-index-preserved c = record {
  small = c.in-Some-grown_size.ensures.small;
  sums = λ x h.
      small_more c.over_theorems.ensures c.args.all c.requires.denom.some c.requires.denom.small c.sum_theorems.ensures c.args.entries.now x c.args.most.now h c.requires.sizes c.loop-index.index c.loop-index.total c.in-Some-grown_size.next _ c.in-Some.numerator c.index-entries-index.result
      c.loop-index-test.true (entry_read c.args.entries.now c.loop-index.index c.index-entries-index.result c.loop-index-test.true c.index-entries-index.is) c.in-Some.ensures.value
      refl (c.in-Some-grown_size.ensures.value ∙ ap (λ (z : ℤ). c.loop-index.total + unsigned_abs z * get_or c.args.most.now c.loop-index.index 0) (read_small c.in-Some.numerator c.in-Some.ensures.small)) c.in-Some-grown_size.ensures.small (c.loop-index.invariant.sums x h);
}

pub returns : goal.returns
returns c t x h =
    small_all c.over_theorems.ensures c.args.all c.requires.denom.some c.requires.denom.small c.sum_theorems.ensures c.args.entries.now x c.loop-index.index c.loop-index.total (omega (arith, c.loop-index-test.false)) c.loop-index.invariant.small (c.loop-index.invariant.sums x h)
