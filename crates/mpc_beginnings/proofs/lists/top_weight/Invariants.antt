use Rattle.std.proofs.Common.{ℕ, ◌<◌, ◌≤◌}
use Rattle.mpc_beginnings.specs.RunLists.{weight_of}
use Rattle.mpc_beginnings.proofs.lists.top_weight.Given as goal

abbrev pub invariant-loop-unknown : goal.invariant-loop-unknown
invariant-loop-unknown l = (j : ℕ) → j < l.unknown → weight_of l.lists l.product j ≤ l.top
