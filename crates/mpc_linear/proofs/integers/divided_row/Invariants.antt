use Rattle.std.proofs.Common.{◌≡◌, take, map, pos, int_div}
use Rattle.mpc_linear.proofs.integers.divided_row.Given as goal

abbrev pub invariant-loop-integer : goal.invariant-loop-integer
invariant-loop-integer l = l.quotients ≡ map (λ z. int_div z (pos l.by)) (take l.integer-index l.row)
