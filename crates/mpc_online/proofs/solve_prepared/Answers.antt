use Rattle.std.proofs.Common.{◌≡◌, List, length}
use Rattle.std.proofs.lemmas.Result.{IfOk-weaker}
use Rattle.mpc_exact.specs.Rational.{ℚ}
use Rattle.mpc_space.specs.Matrix.{height}
use Rattle.mpc_rows.specs.ActiveSets.{IsFeasible}
use Rattle.mpc_rows.specs.Refutation.{Refutes}
use Rattle.mpc_cover.specs.Cheapest.{IsCheapest}
use Rattle.mpc_online.specs.StateRows.{point_of, state_system}
use Rattle.mpc_online.specs.Standing.{IsAnswer}
use Rattle.mpc_online.specs.Answers.{IfBest, IfRefuted}
use Rattle.mpc_online.proofs.Found.{best_found, refuted_found, size_found, none_found}
use Rattle.mpc_online.proofs.solve_prepared.Goals as goal

pub returns-clause-best : goal.returns-clause-best
returns-clause-best c =
    IfOk-weaker c.answer.result (IsAnswer c.args.qp.now (point_of c.args.counts.now)) (λ o. IfBest o (IsCheapest c.args.qp.now (point_of c.args.counts.now)))
    (best_found c.cheapest_theorems.ensures.by_multipliers c.args.qp.now (point_of c.args.counts.now) c.requires.symmetric c.requires.definite c.requires.in_box) c.answer.ensures.answer

pub returns-clause-refuted : goal.returns-clause-refuted
returns-clause-refuted c =
    IfOk-weaker c.answer.result (IsAnswer c.args.qp.now (point_of c.args.counts.now)) (λ o. IfRefuted o (Refutes (state_system c.args.qp.now (point_of c.args.counts.now))))
    (refuted_found c.args.qp.now (point_of c.args.counts.now) c.system_theorems.ensures) c.answer.ensures.answer

pub returns-clause-one_each : goal.returns-clause-one_each
returns-clause-one_each c =
    IfOk-weaker c.answer.result (IsAnswer c.args.qp.now (point_of c.args.counts.now)) (λ o. IfRefuted o (λ (m : List ℚ). length m ≡ height c.args.qp.now.g))
    (size_found c.args.qp.now (point_of c.args.counts.now) c.system_theorems.ensures) c.answer.ensures.answer

pub returns-clause-infeasible : goal.returns-clause-infeasible
returns-clause-infeasible c =
    IfOk-weaker c.answer.result (IsAnswer c.args.qp.now (point_of c.args.counts.now)) (λ o. IfRefuted o (λ _. (z : List ℚ) → ¬ IsFeasible c.args.qp.now (point_of c.args.counts.now) z))
    (none_found c.args.qp.now (point_of c.args.counts.now) c.system_theorems.ensures) c.answer.ensures.answer
