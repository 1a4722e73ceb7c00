use Rattle.std.proofs.Common.{◌∙◌, sym, ap, arith, ⊎_elim, ◌≡◌, ◌*◌, ◌^◌, ◌%◌}
use Rattle.std.specs.Int.{w64}
use Rattle.mpc_exact.specs.Gcd.{gcd}
use Rattle.mpc_frac.proofs.Binary.{part_odd, shifted_back, positive_gcd, gcd-zero, zero-gcd, gcd-one, one-gcd}
use Rattle.mpc_frac.proofs.divisor.short_divisor.Goals as goal
use Rattle.mpc_frac.proofs.divisor.short_divisor.Goals.{After-min}

pub returns-then-left-eq0-clause-value : goal.returns-then-left-eq0-clause-value
returns-then-left-eq0-clause-value c = sym (ap (λ n. gcd n c.args.right) c.if-left-eq0.true ∙ zero-gcd c.args.right)

pub returns-then-right-eq0-clause-value : goal.returns-then-right-eq0-clause-value
returns-then-right-eq0-clause-value c = sym (ap (gcd c.args.left) c.if-right-eq0.true ∙ gcd-zero c.args.left)

pub returns-then-left-eq1-clause-value : goal.returns-then-left-eq1-clause-value
returns-then-left-eq1-clause-value c = sym (⊎_elim (λ e. ap (λ n. gcd n c.args.right) e ∙ one-gcd c.args.right) (λ p. ap (gcd c.args.left) p.1 ∙ gcd-one c.args.left) c.then-left-eq1.either)

pub of_odd-requires-clause-x_odd : goal.of_odd-requires-clause-x_odd
of_odd-requires-clause-x_odd c = part_odd w64 c.args.left (omega arith) c.ranges.left.fits

pub of_odd-requires-clause-y_odd : goal.of_odd-requires-clause-y_odd
of_odd-requires-clause-y_odd c = part_odd w64 c.args.right (omega arith) c.ranges.right.fits

value : (c : After-min) → c.of_odd.result * 2 ^ c.min.result % 2 ^ 64 ≡ gcd c.args.left c.args.right
value c = ap (λ k. c.of_odd.result * 2 ^ k % 2 ^ 64) c.min.ensures ∙ shifted_back w64 c.args.left c.args.right (omega arith) (omega arith) c.ranges.left.fits c.ranges.right.fits c.of_odd.result c.of_odd.ensures

pub returns-clause-value : goal.returns-clause-value
returns-clause-value c = value ((goal.at.returns-clause-value c).After-min)

pub returns-clause-positive : goal.returns-clause-positive
returns-clause-positive c some = positive_gcd _ _ _ (value ((goal.at.returns-clause-positive c).After-min)) some
