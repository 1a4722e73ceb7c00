use Rattle.std.proofs.Common.{ℕ, ◌<◌, List}
use Rattle.mpc_rows.specs.LinearSystem.{height}
use Rattle.mpc_rows.specs.Run.{Position, may_enter}
use Rattle.mpc_runs.specs.declared.variables.Seat.{Seat}
use Rattle.mpc_runs.specs.Table.{IsSeated, AreNonbasic}
use Rattle.mpc_whole.specs.Whole.{HasBasis, IsRowOf}
use Rattle.mpc_whole.proofs.Nonbasic.{IsFirstOf}
use Rattle.mpc_whole.proofs.wide_turn.wide_entering.Given as goal

abbrev pub invariant-loop-column : goal.invariant-loop-column
invariant-loop-column v = (seats : List Seat) (p : Position) (k : List ℕ) (l d : ℕ) → IsSeated (height v.system) v.system.width v.count seats → AreNonbasic v.system.width seats v.nonbasic → 0 < d → HasBasis v.count seats p → IsRowOf v.count seats k p d l v.row → IsFirstOf (may_enter v.system p l) v.nonbasic v.count v.column v.first
