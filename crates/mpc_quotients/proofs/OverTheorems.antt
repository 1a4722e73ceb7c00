-- The laws of whole numbers over one denominator.
use Rattle.mpc_quotients.specs.OverTheorems.{OverTheorems}
use Rattle.mpc_runs.proofs.WholeFits.{fits_over, fits_sum_over}
use Rattle.mpc_runs.proofs.WholeSums.{frac_sum, ratio_is}

pub over_theorems : OverTheorems
over_theorems = record { fits = fits_over; sum_fits = fits_sum_over; sum = frac_sum; quotient = ratio_is }
