use Rattle.std.proofs.Common.{subst}
use Rattle.mpc_linear.specs.Whole.{IsScaledRow}
use Rattle.mpc_linear.proofs.PrimitiveLemmas.{row_points}
use Rattle.mpc_linear.proofs.integers.primitive.Goals as goal
use Rattle.mpc_linear.proofs.integers.primitive.Goals.{In_ok-reduced}

scaled_row : (c : In_ok-reduced) → IsScaledRow c.args.coefficients.now c.args.bound.now c.in_ok-reduced.reduced.a c.in_ok-reduced.reduced.b
scaled_row c =
    c.in_ok-reduced.ensures.scaled c.args.coefficients.now c.args.bound.now (subst (λ xs. IsScaledRow xs c.args.bound.now c.in_ok-row.row.a c.in_ok-row.row.b) c.as_slice.ensures c.in_ok-row.ensures.scaled)

pub returns-clause-scaled : goal.returns-clause-scaled
returns-clause-scaled c = scaled_row c

pub returns-clause-same_points : goal.returns-clause-same_points
returns-clause-same_points c = row_points c.args.coefficients.now c.args.bound.now c.in_ok-reduced.reduced.a c.in_ok-reduced.reduced.b (scaled_row c)
