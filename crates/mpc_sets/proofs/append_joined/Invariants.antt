use Rattle.std.proofs.Common.{◌+◌, length, get_or}
use Rattle.mpc_sets.specs.NextLevel.{HoldsNext}
use Rattle.mpc_sets.proofs.Joining.{IsReached}
use Rattle.mpc_sets.proofs.append_joined.Given as goal

abbrev pub invariant-loop-partner : goal.invariant-loop-partner
invariant-loop-partner l = HoldsNext (IsReached l.grown l.place l.beginning (get_or l.set (length l.beginning) 0) (l.place + 1 + l.partner-index)) l.grown l.rows l.level.items
