use Rattle.std.proofs.Common.{◌≡◌, ◌+◌, ◌≤◌, ◌++◌, map, take, length, vec_capacity}
use Rattle.mpc_claim.specs.Entries.{unclaimed}
use Rattle.mpc_claim.proofs.levels.append_waiting.Given as goal

abbrev pub invariant-loop-set : goal.invariant-loop-set
invariant-loop-set l = record {
  items : l.entries.items ≡ l.fn.entries.items ++ map unclaimed (take l.set-index l.sets);
  room : length l.fn.entries.items + length l.sets ≤ vec_capacity l.entries;
}
