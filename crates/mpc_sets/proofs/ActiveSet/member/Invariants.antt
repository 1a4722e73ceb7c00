use Rattle.std.proofs.Common.{◌-◌}
use Rattle.mpc_sets.proofs.Masks.{IsRestOf}
use Rattle.mpc_sets.proofs.ActiveSet.member.Given as goal

abbrev pub invariant-loop : goal.invariant-loop
invariant-loop l = IsRestOf l.rest (l.counter - 1) l.fn.self
