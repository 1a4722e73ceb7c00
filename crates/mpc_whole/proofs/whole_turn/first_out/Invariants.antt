use Rattle.std.proofs.Common.{◌≡◌, ◌<◌, None}
use Rattle.mpc_rows.specs.Least.{least}
use Rattle.mpc_rows.specs.Run.{Position, may_leave}
use Rattle.mpc_whole.specs.Whole.{HasBasis, HasSideValues}
use Rattle.mpc_scaled.specs.Scaled.{HasSides}
use Rattle.mpc_runs.specs.Leaving.{StayBefore}
use Rattle.mpc_whole.proofs.whole_turn.first_out.Given as goal

abbrev pub invariant-loop-variable : goal.invariant-loop-variable
invariant-loop-variable l = (p : Position) → 0 < l.place.den → HasBasis l.frame.count l.seats p → HasSideValues l.system l.frame.scales.now l.frame.a.now p l.place.den l.firsts l.seconds → HasSides l.system l.frame.scales.now l.frame.b.now → StayBefore l.system p l.place.first → least (may_leave l.system p) l.variable ≡ None
