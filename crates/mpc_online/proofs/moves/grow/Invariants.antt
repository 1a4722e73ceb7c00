use Rattle.mpc_online.proofs.Grown.{IsGrowing}
use Rattle.mpc_online.proofs.moves.grow.Given as goal

abbrev pub invariant-loop-index : goal.invariant-loop-index
invariant-loop-index l = IsGrowing l.fn.entries l.scale l.changes l.index l.entries
