use Rattle.mpc_tight.proofs.SameTightened.{one_tightened}
use Rattle.mpc_tight.proofs.TightenedRows.{one_wide_row, no_wide_row}
use Rattle.mpc_tight.proofs.Robust.{tightened_is_robust}
use Rattle.mpc_tight.proofs.theorems.tight_theorems.Goals as goal

pub returns-clause-tightened : goal.returns-clause-tightened
returns-clause-tightened c = one_tightened

pub returns-clause-wide : goal.returns-clause-wide
returns-clause-wide c plant noise w i j a b = one_wide_row plant noise w i j a b

pub returns-clause-none : goal.returns-clause-none
returns-clause-none c plant noise w i fit = no_wide_row plant noise w i fit

pub returns-clause-robust : goal.returns-clause-robust
returns-clause-robust c = tightened_is_robust
