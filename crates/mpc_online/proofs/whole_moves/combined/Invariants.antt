use Rattle.std.proofs.Common.{◌≡◌, ◌^◌, get_or, pos, ◌+ℤ◌, ◌*ℤ◌}
use Rattle.mpc_online.proofs.WholeMoves.{AreFound}
use Rattle.mpc_online.proofs.whole_moves.combined.Given as goal

abbrev pub invariant-loop-index : goal.invariant-loop-index
invariant-loop-index l = AreFound (2 ^ 125) (λ j v. v ≡ get_or l.point.numerators j (pos 0) *ℤ l.fn.left +ℤ get_or l.direction.numerators j (pos 0) *ℤ l.fn.right) l.den l.numerators l.most l.index
