use Rattle.std.proofs.Common.{◌≡◌, take}
use Rattle.mpc_law_lines.proofs.tree_lines.ints_of.Given as goal

abbrev pub invariant-loop-integer : goal.invariant-loop-integer
invariant-loop-integer l = l.list ≡ take l.integer-index l.integers
