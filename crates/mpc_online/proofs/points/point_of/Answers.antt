use Rattle.std.proofs.Common.{arith, subst, List}
use Rattle.mpc_exact.specs.Rational.{ℚ}
use Rattle.mpc_wholes.specs.Wholes.{IsOver}
use Rattle.mpc_online.proofs.WholeMoves.{first_is}
use Rattle.mpc_online.proofs.points.point_of.Goals as goal

pub returns-in-Some : goal.returns-in-Some
returns-in-Some c = first_is c.in-Some.numbers c.len.result c.args.entries.items (subst (λ (xs : List ℚ). IsOver xs c.in-Some.numbers) c.deref.ensures.value c.in-Some.ensures) (let k = c.args.entries.ok in let e = c.len.ensures in omega (arith, e, k))
