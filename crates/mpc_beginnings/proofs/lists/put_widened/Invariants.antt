use Rattle.std.proofs.Common.{◌≡◌, take}
use Rattle.mpc_beginnings.proofs.lists.put_widened.Given as goal

abbrev pub invariant-loop-j : goal.invariant-loop-j
invariant-loop-j l = l.list.items ≡ take l.j l.numbers
