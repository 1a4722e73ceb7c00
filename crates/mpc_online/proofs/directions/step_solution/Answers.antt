use Rattle.std.proofs.Common.{◌∙◌, ap, subst, MatchResult}
use Rattle.mpc_space.specs.Matrix.{RationalMatrix, height}
use Rattle.mpc_rows.specs.SetRuns.{law_matrix}
use Rattle.mpc_online.specs.Positions.{step_side}
use Rattle.mpc_online.specs.Widths.{EliminationFits}
use Rattle.mpc_online.specs.Answers.{IfStopWide}
use Rattle.mpc_online.proofs.Advance.{height-right}
use Rattle.mpc_online.proofs.directions.step_solution.Goals as goal

pub solution-requires-clause-rows : goal.solution-requires-clause-rows
solution-requires-clause-rows c = ap height c.in_ok-right.ensures ∙ height-right c.args.qp.now c.args.set (step_side c.args.qp.now c.args.row)

pub returns-clause-wide : goal.returns-clause-wide
returns-clause-wide c =
    subst (λ (r : RationalMatrix). MatchResult c.solution.result (λ _. EliminationFits (law_matrix c.args.qp.now c.args.set) r) (λ e. IfStopWide e (¬ EliminationFits (law_matrix c.args.qp.now c.args.set) r)))
    c.in_ok-right.ensures c.solution.ensures.wide
