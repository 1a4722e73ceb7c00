use Rattle.std.proofs.Common.{◌≡◌, take}
use Rattle.mpc_region.proofs.kept.shared_members.Given as goal

abbrev pub invariant-loop-index : goal.invariant-loop-index
invariant-loop-index l = take l.index l.one ≡ take l.index l.other
