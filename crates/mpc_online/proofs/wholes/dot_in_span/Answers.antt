use Rattle.std.proofs.Common.{◌*◌, sym, ◌∙◌, ap}
use Rattle.mpc_exact.specs.Rational.{frac}
use Rattle.mpc_online.proofs.WholeDots.{read_mag, summed_value, summed_fits}
use Rattle.mpc_online.proofs.wholes.dot_in_span.Goals as goal

pub returns-clause-value : goal.returns-clause-value
returns-clause-value c xs ys ox oy h l =
    summed_value c.args.row.now c.args.numbers.now c.dot_within.result xs ys (c.dot_within.ensures.sum xs ys ox oy h l)
    ∙ ap (λ t. frac t (c.args.row.now.den * c.args.numbers.now.den)) (sym (read_mag c.dot_within.result c.dot_within.type_inv))

pub returns-clause-fits : goal.returns-clause-fits
returns-clause-fits c xs ys ox oy h l = summed_fits c.args.row.now c.args.numbers.now c.dot_within.result xs ys (c.dot_within.ensures.sum xs ys ox oy h l)
