use Rattle.std.proofs.Common.{◌≡◌, ◌+◌, ◌^◌, ◌<◌, ◌+ℤ◌, unsigned_abs, drop}
use Rattle.mpc_controller.specs.Bounds.{reach}
use Rattle.mpc_table.specs.Forms.{weighed}
use Rattle.mpc_table.proofs.values.weighted_sum.Given as goal

abbrev pub invariant-loop-i : goal.invariant-loop-i
invariant-loop-i l = record {
  value : l.sum +ℤ weighed (drop l.i l.slopes) (drop l.i l.counts) ≡ l.start +ℤ weighed l.slopes l.counts;
  within : unsigned_abs l.sum + reach (drop l.i l.slopes) (drop l.i l.counts) < 2 ^ 127;
}
