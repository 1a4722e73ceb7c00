use Rattle.mpc_online.proofs.opening.sum_fits.Goals as goal

pub returns : goal.returns
returns c t x h = (c.is_small_sum.ensures t x h).fits
