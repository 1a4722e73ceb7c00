use Rattle.std.proofs.Common.{◌≡◌, pos, refl, ap, ◌∙◌}
use Rattle.mpc_exact.specs.Rational.{int, neg_ℚ, ◌*ℚ◌}
use Rattle.mpc_linear.proofs.ZeroFits.{zero_left, zero_right, zero_take, taken_from_zero, nothing_taken, same_taken}
use Rattle.mpc_linear.proofs.products.sub_product.Goals as goal
use Rattle.mpc_linear.proofs.products.sub_product.Goals.{then-is_zero-via-then-is_zero, then-is_zero-via-else-is_zero+then-is_zero-2}

pub returns-in-Ok-clause-value : goal.returns-in-Ok-clause-value
returns-in-Ok-clause-value c =
    c.neg.ensures ∙ ap neg_ℚ c.in-Ok.ensures.value ∙ zero_take c.args.sum.now (c.args.left.now *ℚ c.args.right.now) (c.if-nothing.ensures.value.0 refl)

pub returns-in-Ok-clause-wide : goal.returns-in-Ok-clause-wide
returns-in-Ok-clause-wide c = taken_from_zero c.args.sum.now c.args.left.now c.args.right.now (c.if-nothing.ensures.value.0 refl) c.in-Ok.ensures.wide

pub returns-then-is_zero-clause-value : goal.returns-then-is_zero-clause-value
returns-then-is_zero-clause-value c =
    let nought : int (pos 0) ≡ c.args.left.now *ℚ c.args.right.now =
    elim c.then-is_zero.branch [
      | then-is_zero-via-then-is_zero w ↦ zero_left c.args.left.now c.args.right.now (w.if-is_zero.ensures.value.0 refl)
      | then-is_zero-via-else-is_zero+then-is_zero-2 w ↦ zero_right c.args.left.now c.args.right.now (w.if-is_zero-2.ensures.value.0 refl)
    ]
    in
    same_taken c.args.sum.now c.args.left.now c.args.right.now nought

pub returns-then-is_zero-clause-wide : goal.returns-then-is_zero-clause-wide
returns-then-is_zero-clause-wide c =
    let nought : int (pos 0) ≡ c.args.left.now *ℚ c.args.right.now =
    elim c.then-is_zero.branch [
      | then-is_zero-via-then-is_zero w ↦ zero_left c.args.left.now c.args.right.now (w.if-is_zero.ensures.value.0 refl)
      | then-is_zero-via-else-is_zero+then-is_zero-2 w ↦ zero_right c.args.left.now c.args.right.now (w.if-is_zero-2.ensures.value.0 refl)
    ]
    in
    nothing_taken c.args.sum.now c.args.left.now c.args.right.now c.is_zero-nothing.ensures.fits nought
