use Rattle.std.proofs.Common.{ℕ, ◌<◌, ◌≤◌}
use Rattle.mpc_beginnings.specs.RunLists.{weight_of}
use Rattle.mpc_beginnings.specs.Kept.{IsLightRow}
use Rattle.mpc_beginnings.proofs.kept.room_before.Given as goal

abbrev pub invariant-loop-row : goal.invariant-loop-row
invariant-loop-row l = (i : ℕ) → i < l.row → l.first ≤ i → IsLightRow l.system l.numbers (weight_of l.lists l.from.product) l.from i
