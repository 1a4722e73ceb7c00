use Rattle.mpc_exact.specs.Gcd.{gcd-divides_left, gcd-divides_right, gcd_greatest, lcm-divided_left, lcm-divided_right, lcm_least}
use Rattle.mpc_exact.proofs.divisor_theorems.Goals as goal

pub returns-clause-gcd_divides_left : goal.returns-clause-gcd_divides_left
returns-clause-gcd_divides_left c = gcd-divides_left

pub returns-clause-gcd_divides_right : goal.returns-clause-gcd_divides_right
returns-clause-gcd_divides_right c = gcd-divides_right

pub returns-clause-gcd_is_greatest : goal.returns-clause-gcd_is_greatest
returns-clause-gcd_is_greatest c = gcd_greatest

pub returns-clause-lcm_is_multiple_left : goal.returns-clause-lcm_is_multiple_left
returns-clause-lcm_is_multiple_left c = lcm-divided_left

pub returns-clause-lcm_is_multiple_right : goal.returns-clause-lcm_is_multiple_right
returns-clause-lcm_is_multiple_right c = lcm-divided_right

pub returns-clause-lcm_is_least : goal.returns-clause-lcm_is_least
returns-clause-lcm_is_least c = lcm_least
