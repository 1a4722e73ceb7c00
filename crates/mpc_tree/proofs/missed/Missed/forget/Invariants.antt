use Rattle.std.proofs.Common.{◌≡◌, ◌++◌, drop, map, take}
use Rattle.mpc_tree.specs.Missed.{entry_within}
use Rattle.mpc_tree.proofs.missed.Missed.forget.Given as goal

abbrev pub invariant-loop-place : goal.invariant-loop-place
invariant-loop-place l = l.self-inside.first.items ≡ map (entry_within l.shared) (take l.place l.initial.self-inside.first.items) ++ drop l.place l.initial.self-inside.first.items
