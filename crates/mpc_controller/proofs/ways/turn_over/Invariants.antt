use Rattle.std.proofs.Common.{vec_len}
use Rattle.mpc_controller.specs.Ways.{EndsTree}
use Rattle.mpc_controller.proofs.ways.turn_over.Given as goal

abbrev pub invariant-loop-turn : goal.invariant-loop-turn
invariant-loop-turn l = EndsTree l.tree l.way.items l.end

abbrev pub decreases-loop-turn : goal.decreases-loop-turn
decreases-loop-turn l = vec_len l.way
