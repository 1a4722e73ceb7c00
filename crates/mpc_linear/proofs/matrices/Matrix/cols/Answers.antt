use Rattle.mpc_linear.proofs.GridLemmas.{columns_is, rectangular_is}
use Rattle.mpc_linear.proofs.matrices.Matrix.cols.Goals as goal

pub returns-clause-value : goal.returns-clause-value
returns-clause-value c = columns_is _ _ _ _ c.self.view_is

pub returns-clause-rectangular : goal.returns-clause-rectangular
returns-clause-rectangular c = rectangular_is _ _ _ _ c.self.view_is c.self.invariant
