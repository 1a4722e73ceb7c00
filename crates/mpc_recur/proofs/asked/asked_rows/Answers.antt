use Rattle.std.proofs.Common.{arith}
use Rattle.mpc_recur.proofs.asked.asked_rows.Goals as goal

pub loop-split-init : goal.loop-split-init
loop-split-init c = record { width = c.in_ok-rows.ensures.width; each = λ turn below is. absurd (omega arith) }
