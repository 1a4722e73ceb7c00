use Rattle.std.proofs.Common.{◌<◌, ◌≤◌, subst, sym}
use Rattle.mpc_plant.proofs.DigitLemmas.{power_bound, power_positive}
use Rattle.mpc_plant.proofs.numerals.power_of_ten.Goals as goal

pub returns-clause-positive : goal.returns-clause-positive
returns-clause-positive c = subst (λ n. 0 < n) (sym c.pow.ensures) (power_positive c.args.zeros)

pub returns-clause-small : goal.returns-clause-small
returns-clause-small c = subst (λ n. n ≤ 1000000000000000000) (sym c.pow.ensures) (power_bound c.args.zeros 18 c.requires)
