use Rattle.std.proofs.Common.{◌≡◌, ◌++◌}
use Rattle.mpc_tree.specs.Pieces.{all_of}
use Rattle.mpc_tree.proofs.frontier.groups.Given as goal

abbrev pub invariant-loop-behind : goal.invariant-loop-behind
invariant-loop-behind l = all_of l.groups.items ++ l.pieces.items ≡ l.fn.pieces.items
