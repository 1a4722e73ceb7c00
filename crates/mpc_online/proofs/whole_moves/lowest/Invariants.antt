use Rattle.std.proofs.Common.{◌≡◌, get_or, pos, ◌*ℤ◌}
use Rattle.mpc_online.proofs.WholeMoves.{AreFound}
use Rattle.mpc_online.proofs.whole_moves.lowest.Given as goal

abbrev pub invariant-loop-index : goal.invariant-loop-index
invariant-loop-index l = AreFound l.numbers.most (λ j v. v *ℤ pos l.shared ≡ get_or l.numbers.numerators j (pos 0)) l.den l.numerators l.most l.index
