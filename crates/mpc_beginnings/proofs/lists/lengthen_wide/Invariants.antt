use Rattle.std.proofs.Common.{◌≤◌, length}
use Rattle.mpc_beginnings.proofs.lists.lengthen_wide.Given as goal

abbrev pub invariant-loop-k : goal.invariant-loop-k
invariant-loop-k l = l.k ≤ length l.list.items
