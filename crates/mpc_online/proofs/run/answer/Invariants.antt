use Rattle.std.proofs.Common.{◌≡◌, ◌^◌, ◌-◌}
use Rattle.mpc_online.specs.StateRows.{point_of, sides_at}
use Rattle.mpc_online.specs.OnlineRun.{RunEnd, EndsFrom, IsRunEnd}
use Rattle.mpc_online.specs.Answers.{position_of}
use Rattle.mpc_online.specs.Evens.{sides_of}
use Rattle.mpc_online.specs.Shared.{IsPreparedFor}
use Rattle.mpc_online.proofs.Travel.{Travelled}
use Rattle.mpc_online.proofs.run.answer.Given as goal

abbrev pub invariant-steps : goal.invariant-steps
invariant-steps l = record {
  travelled : Travelled l.qp (point_of l.fn.counts) (position_of l.it) l.step;
  ahead : (end : RunEnd) → EndsFrom l.qp (sides_at l.qp (point_of l.fn.counts)) l.step (position_of l.it) end → IsRunEnd l.qp (point_of l.fn.counts) end;
  sides : sides_of l.sides ≡ sides_at l.qp (point_of l.fn.counts);
  prepared : IsPreparedFor l.qp l.prepared;
}

abbrev pub decreases-steps : goal.decreases-steps
decreases-steps l = 2 ^ 28 - l.step
