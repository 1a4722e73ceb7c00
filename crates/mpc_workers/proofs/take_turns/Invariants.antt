use Rattle.std.proofs.Common.{◌≡◌, ◌-◌, length}
use Rattle.mpc_claim.specs.History.{claimed_sets}
use Rattle.mpc_workers.proofs.Turns.{IsBetweenTurns}
use Rattle.mpc_workers.proofs.take_turns.Given as goal

abbrev pub invariant-turns : goal.invariant-turns
invariant-turns g l = record {
  between : IsBetweenTurns l._qp l.registry;
  examiner : l.examiner ≡ l._qp;
}

abbrev pub decreases-turns : goal.decreases-turns
decreases-turns g l = 56049059 - length (claimed_sets l.registry.history)
