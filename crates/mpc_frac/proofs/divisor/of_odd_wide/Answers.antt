use Rattle.std.proofs.Common.{◌<◌, ◌∙◌, arith}
use Rattle.std.specs.Int.{w128}
use Rattle.mpc_frac.proofs.Binary.{part_odd, lesser_odd, step_gcd, equal_gcd}
use Rattle.mpc_frac.proofs.divisor.of_odd_wide.Goals as goal

pub returns-then-difference-eq0 : goal.returns-then-difference-eq0
returns-then-difference-eq0 c = equal_gcd c.steps.left c.steps.right c.abs_diff-difference.result c.abs_diff-difference.ensures c.if-difference-eq0.true ∙ c.steps.invariant.same

pub steps-preserved : goal.steps-preserved
steps-preserved c =
    let some : 0 < c.abs_diff-difference.result = omega arith in
    record {
      x_odd = part_odd w128 c.abs_diff-difference.result some c.abs_diff-difference.type_inv;
      y_odd = lesser_odd c.steps.left c.steps.right c.min-right.result c.min-right.ensures c.steps.invariant.x_odd c.steps.invariant.y_odd;
      same = step_gcd w128 c.steps.left c.steps.right c.abs_diff-difference.result c.min-right.result c.abs_diff-difference.ensures c.min-right.ensures c.steps.invariant.x_odd c.steps.invariant.y_odd some c.abs_diff-difference.type_inv ∙ c.steps.invariant.same;
    }
