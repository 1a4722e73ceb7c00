use Rattle.std.proofs.Common.{rules}
use Rattle.mpc_exact.specs.Rational.{IsPositive}
use Rattle.mpc_plant_lines.specs.LimitNumbers.{IsStepCount}
use Rattle.mpc_plant_lines.proofs.LimitLemmas.{three_of}
use Rattle.mpc_plant_lines.proofs.limit_lines.axis_of.Goals as goal

pub returns : goal.returns
returns c =
    let count : IsStepCount c.index-numbers-2.result c.in_ok-count.count = c.in_ok-count.ensures in
    let positive : IsPositive c.index-numbers-1.result = search (rules, c.if-not-is_positive.ensures) in
    record {
      last = c.index-numbers-2.result;
      numbers_are = three_of c.args.numbers.now c.index-numbers-0.result c.index-numbers-1.result c.index-numbers-2.result c.if-numbers-ne3.false c.index-numbers-0.is c.index-numbers-1.is c.index-numbers-2.is;
      count_is = count;
      allowed = record { step_positive = positive; count_small = count.small };
    }
