use Rattle.mpc_workers.proofs.Foreseen.{Stay}
use Rattle.mpc_workers.proofs.ahead.forget_before.Given as goal

abbrev pub invariant-loop : goal.invariant-loop
invariant-loop l = Stay l.initial.known.items l.known.items
