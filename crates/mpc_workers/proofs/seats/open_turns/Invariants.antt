use Rattle.std.proofs.Common.{take}
use Rattle.mpc_workers.specs.Posts.{AtEach, IsOpening}
use Rattle.mpc_workers.proofs.seats.open_turns.Given as goal

abbrev pub invariant-loop-qp : goal.invariant-loop-qp
invariant-loop-qp l = AtEach (IsOpening 0) l.opened.turns.items (take l.qp-index l.programs) l.opened.firsts.items
