use Rattle.std.proofs.Common.{take}
use Rattle.mpc_check.specs.Certs.{HasPositionsIn}
use Rattle.mpc_check.proofs.certs.has_positions_in.Given as goal

abbrev pub invariant-loop-i : goal.invariant-loop-i
invariant-loop-i l = HasPositionsIn l.rows (take l.i l.entries)
