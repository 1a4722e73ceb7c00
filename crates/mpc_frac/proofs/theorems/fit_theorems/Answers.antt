use Rattle.mpc_frac.proofs.FitLemmas.{whole_fits, quotient_fits, negative_fits, inverse_fits, sum_fits, fits_before_zero, fits_behind_zero}
use Rattle.mpc_frac.proofs.theorems.fit_theorems.Goals as goal

pub returns : goal.returns
returns c = record {
  whole = whole_fits;
  quotient = quotient_fits;
  negative = negative_fits;
  inverse = inverse_fits;
  sum = sum_fits;
  before_zero = fits_before_zero;
  behind_zero = fits_behind_zero;
}
