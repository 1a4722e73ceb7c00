use Rattle.mpc_recur.specs.Asked.{AreAsked}
use Rattle.mpc_recur.proofs.asked.asked_rows.Given as goal

abbrev pub invariant-loop-split : goal.invariant-loop-split
invariant-loop-split l = AreAsked l.tree l.forms l.split l.rows
