use Rattle.std.proofs.Common.{◌≡◌, length, map, take}
use Rattle.mpc_linear.specs.Whole.{scaled}
use Rattle.mpc_block.proofs.forms.numerators.Given as goal

abbrev pub invariant-loop-i : goal.invariant-loop-i
invariant-loop-i l = record {
  size : length l.numerators ≡ 5;
  value : take l.i l.numerators ≡ map (scaled l.den) (take l.i l.form);
}
