use Rattle.mpc_recur.proofs.RowLemmas.{SubstitutedSo}
use Rattle.mpc_recur.proofs.rows.substituted_sides.Given as goal

abbrev pub invariant-loop-j : goal.invariant-loop-j
invariant-loop-j l = SubstitutedSo l.forms l.coefficients l.j l.sides
