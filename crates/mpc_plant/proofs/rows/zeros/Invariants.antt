use Rattle.std.proofs.Common.{◌≡◌, replicate, pos}
use Rattle.mpc_exact.specs.Rational.{int}
use Rattle.mpc_plant.proofs.rows.zeros.Given as goal

abbrev pub invariant-loop : goal.invariant-loop
invariant-loop l = l.entries ≡ replicate l.counter (int (pos 0))
