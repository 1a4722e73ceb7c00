use Rattle.mpc_rows.proofs.ProgramLemmas.{same_program}
use Rattle.mpc_rows.proofs.programs.Qp.copy.Goals as goal

pub returns : goal.returns
returns c =
    same_program _ _ c.in_ok-hessian.ensures c.in_ok-mixed_cost.ensures c.in_ok-state_cost.ensures c.in_ok-coefficients.ensures c.in_ok-bounds.ensures c.in_ok-counts.ensures
