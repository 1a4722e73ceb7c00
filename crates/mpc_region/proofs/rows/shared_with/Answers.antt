use Rattle.std.proofs.Common.{◌≡◌, ◌≤◌, ◌<◌, ◌%◌, refl, sym, ◌∙◌, subst, arith}
use Rattle.mpc_region.proofs.SweptDivisors.{gcd_none, gcd_rest, gcd_right}
use Rattle.mpc_region.proofs.rows.shared_with.Goals as goal

pub returns-then-shared-eq0 : goal.returns-then-shared-eq0
returns-then-shared-eq0 c = sym (gcd_none c.args.shared c.args.size c.if-shared-eq0.true)

pub returns-then-shared-eq1 : goal.returns-then-shared-eq1
returns-then-shared-eq1 c =
    let one : c.args.shared ≡ 1 = c.if-shared-eq1.true in
    let none : c.args.size % c.args.shared ≡ 0 = omega arith in
    sym one ∙ sym (gcd_none (c.args.size % c.args.shared) c.args.shared none) ∙ gcd_rest c.args.shared c.args.size (c.args.size % c.args.shared) refl

pub returns-then-rest-eq0 : goal.returns-then-rest-eq0
returns-then-rest-eq0 c = sym (gcd_none (c.args.size % c.args.shared) c.args.shared c.if-rest-eq0.true) ∙ gcd_rest c.args.shared c.args.size (c.args.size % c.args.shared) refl

pub overflow_cast-result : goal.overflow_cast-result
overflow_cast-result c =
    let some : 0 < c.args.shared = let f = c.if-shared-eq0.false in omega arith in
    let at_most : c.greatest_common_divisor.result ≤ c.args.shared = subst (λ n. n ≤ c.args.shared) (sym c.greatest_common_divisor.ensures.value) (gcd_right (c.args.size % c.args.shared) c.args.shared some) in
    let fits = c.ranges.shared.fits in
    omega arith

pub returns : goal.returns
returns c = c.greatest_common_divisor.ensures.value ∙ gcd_rest c.args.shared c.args.size (c.args.size % c.args.shared) refl
