use Rattle.mpc_rows.proofs.PlaceLemmas.{NotBefore}
use Rattle.mpc_rows.proofs.law_rows.place_among.Given as goal

abbrev pub invariant-loop-k : goal.invariant-loop-k
invariant-loop-k l = NotBefore l.set l.row l.k
