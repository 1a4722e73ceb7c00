use Rattle.std.proofs.Common.{◌≡◌, pos, refl}
use Rattle.mpc_exact.specs.Rational.{int, ◌+ℚ◌, ◌*ℚ◌}
use Rattle.mpc_frac.specs.Fits.{FitsFrac}
use Rattle.mpc_linear.specs.Dot.{TermFits}
use Rattle.mpc_linear.proofs.ZeroFits.{zero_left, zero_right, zero_add, from_zero, nothing_added, same_added}
use Rattle.mpc_space.proofs.Outcomes.{value_as, fits_as}
use Rattle.mpc_linear.proofs.products.add_product.Goals as goal
use Rattle.mpc_linear.proofs.products.add_product.Goals.{then-is_zero-via-then-is_zero, then-is_zero-via-else-is_zero+then-is_zero-2}

pub returns-then-nothing-clause-value : goal.returns-then-nothing-clause-value
returns-then-nothing-clause-value c =
    value_as c.mul.result (c.args.left.now *ℚ c.args.right.now) (c.args.sum.now +ℚ c.args.left.now *ℚ c.args.right.now)
    (zero_add c.args.sum.now (c.args.left.now *ℚ c.args.right.now) (c.if-nothing.ensures.value.0 refl)) c.mul.ensures.value

pub returns-then-nothing-clause-wide : goal.returns-then-nothing-clause-wide
returns-then-nothing-clause-wide c =
    fits_as c.mul.result (FitsFrac (c.args.left.now *ℚ c.args.right.now)) (TermFits c.args.sum.now c.args.left.now c.args.right.now)
    (from_zero c.args.sum.now c.args.left.now c.args.right.now (c.if-nothing.ensures.value.0 refl)) (λ t. t.product) c.mul.ensures.wide

pub returns-then-is_zero-clause-value : goal.returns-then-is_zero-clause-value
returns-then-is_zero-clause-value c =
    let nought : int (pos 0) ≡ c.args.left.now *ℚ c.args.right.now =
    elim c.then-is_zero.branch [
      | then-is_zero-via-then-is_zero w ↦ zero_left c.args.left.now c.args.right.now (w.if-is_zero.ensures.value.0 refl)
      | then-is_zero-via-else-is_zero+then-is_zero-2 w ↦ zero_right c.args.left.now c.args.right.now (w.if-is_zero-2.ensures.value.0 refl)
    ]
    in
    same_added c.args.sum.now c.args.left.now c.args.right.now nought

pub returns-then-is_zero-clause-wide : goal.returns-then-is_zero-clause-wide
returns-then-is_zero-clause-wide c =
    let nought : int (pos 0) ≡ c.args.left.now *ℚ c.args.right.now =
    elim c.then-is_zero.branch [
      | then-is_zero-via-then-is_zero w ↦ zero_left c.args.left.now c.args.right.now (w.if-is_zero.ensures.value.0 refl)
      | then-is_zero-via-else-is_zero+then-is_zero-2 w ↦ zero_right c.args.left.now c.args.right.now (w.if-is_zero-2.ensures.value.0 refl)
    ]
    in
    nothing_added c.args.sum.now c.args.left.now c.args.right.now c.is_zero-nothing.ensures.fits nought
