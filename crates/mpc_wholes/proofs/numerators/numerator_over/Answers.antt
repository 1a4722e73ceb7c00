use Rattle.std.proofs.Common.{◌/◌, sym, subst, ◌∙◌, ap, arith}
use Rattle.std.specs.Int.{◌∣◌}
use Rattle.mpc_exact.specs.Rational.{frac}
use Rattle.mpc_wholes.proofs.WholeDots.{numerator_is, read_wide}
use Rattle.mpc_wholes.proofs.numerators.numerator_over.Goals as goal

pub returns-clause-value : goal.returns-clause-value
returns-clause-value c =
    numerator_is c.args.fraction.now c.args.all c.in_ok-times.times c.in_ok-numerator.numerator c.requires.some (subst (λ n. n ∣ c.args.all) c.denominator-below.ensures.value c.in_ok-times.ensures.divides)
    (c.in_ok-times.ensures.value ∙ ap (λ n. c.args.all / n) c.denominator-below.ensures.value) c.in_ok-numerator.ensures.value
    ∙ ap (λ z. frac z c.args.all) (sym (read_wide c.in_ok-numerator.numerator (let l = c.in_ok-numerator.ensures.small in omega (arith, l))))
