use Rattle.std.proofs.Common.{◌≡◌, ◌^◌}
use Rattle.mpc_exact.specs.Rational.{frac}
use Rattle.mpc_space.specs.Vector.{coordinate, mat_vec}
use Rattle.mpc_online.proofs.WholeMoves.{AreFound}
use Rattle.mpc_online.proofs.wholes.products_in_wholes.Given as goal

abbrev pub invariant-loop-index : goal.invariant-loop-index
invariant-loop-index l = AreFound (2 ^ 124) (λ j v. coordinate (mat_vec l.matrix.rows l.list) j ≡ frac v l.den) l.den l.numerators l.most l.index
