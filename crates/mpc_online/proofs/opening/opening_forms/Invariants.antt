use Rattle.mpc_online.proofs.Openings.{IsOpeningStage}
use Rattle.mpc_online.proofs.opening.opening_forms.Given as goal

abbrev pub invariant-loop-column : goal.invariant-loop-column
invariant-loop-column l = IsOpeningStage l.qp l.kept l.column l.stage
