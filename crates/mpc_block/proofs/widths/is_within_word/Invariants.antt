use Rattle.std.proofs.Common.{◌≡◌, ◌+◌, unsigned_abs, drop}
use Rattle.mpc_controller.specs.Bounds.{reach}
use Rattle.mpc_block.proofs.widths.is_within_word.Given as goal

abbrev pub invariant-loop-i : goal.invariant-loop-i
invariant-loop-i l = l.far + reach (drop l.i l.slopes) (drop l.i l.counts) ≡ unsigned_abs l.start + reach l.slopes l.counts
