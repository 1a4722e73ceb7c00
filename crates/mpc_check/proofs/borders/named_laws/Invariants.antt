use Rattle.std.proofs.Common.{◌≡◌, vec_len}
use Rattle.mpc_check.proofs.borders.named_laws.Given as goal

abbrev pub invariant-loop-node : goal.invariant-loop-node
invariant-loop-node l = vec_len l.named ≡ l.fn.count
