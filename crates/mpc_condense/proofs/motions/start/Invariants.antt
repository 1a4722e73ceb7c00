use Rattle.mpc_condense.proofs.Advance.{StartsSome}
use Rattle.mpc_condense.proofs.motions.start.Given as goal

abbrev pub invariant-loop-column : goal.invariant-loop-column
invariant-loop-column l = StartsSome l.plant l.from_counts l.column
