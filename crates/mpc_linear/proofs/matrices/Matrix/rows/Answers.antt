use Rattle.mpc_linear.proofs.GridLemmas.{height_is, rectangular_is}
use Rattle.mpc_linear.proofs.matrices.Matrix.rows.Goals as goal

pub returns-clause-value : goal.returns-clause-value
returns-clause-value c = height_is _ _ _ _ c.self.view_is

pub returns-clause-rectangular : goal.returns-clause-rectangular
returns-clause-rectangular c = rectangular_is _ _ _ _ c.self.view_is c.self.invariant
