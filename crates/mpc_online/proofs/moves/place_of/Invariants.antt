use Rattle.std.proofs.Common.{ℕ, ◌<◌, get_or}
use Rattle.mpc_online.proofs.moves.place_of.Given as goal

abbrev pub invariant-loop-index : goal.invariant-loop-index
invariant-loop-index l = (j : ℕ) → j < l.index → get_or l.set j 0 < l.row
