use Rattle.std.proofs.Common.{◌≡◌, ◌+◌, arith, rules, subst, IfOk}
use Rattle.mpc_exact.specs.Rational.{neg_ℚ}
use Rattle.mpc_space.specs.Vector.{coordinate}
use Rattle.mpc_space.specs.Matrix.{height, tabled}
use Rattle.mpc_online.proofs.matrices.opening_right.Goals as goal

pub returns : goal.returns
returns c =
    let size : c.rows.result ≡ height c.args.qp.now.h + 0 = omega (arith, c.rows.ensures.value) in
    subst (λ n. IfOk c.matrix_of.result (λ m. m ≡ tabled n 1 (λ i j. neg_ℚ (coordinate c.args.costs.now i)))) size (c.matrix_of.ensures (λ i j. neg_ℚ (coordinate c.args.costs.now i)) (λ i j h k x p. search rules))
