use Rattle.mpc_controller.specs.Bounds.{InputsFit}
use Rattle.mpc_controller.proofs.bounds.first_wide_input.Given as goal

abbrev pub invariant-loop-place : goal.invariant-loop-place
invariant-loop-place l = InputsFit l.counts l.law l.place
