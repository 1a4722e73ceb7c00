use Rattle.mpc_table.specs.SharedSteps.{AreStepsTo}
use Rattle.mpc_table.proofs.steps.all_steps.Given as goal

abbrev pub invariant-loop-k : goal.invariant-loop-k
invariant-loop-k l = AreStepsTo l.tree l.k l.rows.items l.places l.steps.items
