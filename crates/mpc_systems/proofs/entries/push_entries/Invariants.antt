use Rattle.std.proofs.Common.{◌≡◌, ◌++◌, take}
use Rattle.mpc_systems.proofs.entries.push_entries.Given as goal

abbrev pub invariant-loop-x : goal.invariant-loop-x
invariant-loop-x l = l.out ≡ l.fn.out ++ take l.x-index l.entries
