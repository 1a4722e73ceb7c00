use Rattle.std.proofs.Common.{◌≡◌, take}
use Rattle.mpc_rows.specs.ActiveSets.{extended}
use Rattle.mpc_online.specs.StateRows.{point_of}
use Rattle.mpc_online.proofs.counts.extended.Given as goal

abbrev pub invariant-loop-count : goal.invariant-loop-count
invariant-loop-count l = l.out.items ≡ extended (point_of (take l.count-index l.counts))
