use Rattle.std.proofs.Common.{take}
use Rattle.std.specs.Prelude.{All}
use Rattle.mpc_controller.specs.Bounds.{LawFits}
use Rattle.mpc_controller.proofs.bounds.first_wide_law.Given as goal

abbrev pub invariant-loop-place : goal.invariant-loop-place
invariant-loop-place l = All (LawFits l.plant) (take l.place l.laws)
