use Rattle.std.proofs.Common.{◌≡◌, ℕ, ◌<◌}
use Rattle.mpc_linear.specs.Product.{DotsFit}
use Rattle.mpc_tight.specs.Tightening.{carried, tightening, AddedFits}
use Rattle.mpc_tight.proofs.tightening.tightening_of.Given as goal

abbrev pub invariant-loop-earlier : goal.invariant-loop-earlier
invariant-loop-earlier l = record {
  carried_is : l.carried ≡ carried l.plant l.row l.earlier;
  sum_is : l.sum ≡ tightening l.plant l.noise l.row l.earlier;
  carries : (j : ℕ) → j < l.earlier → DotsFit l.plant.a (carried l.plant l.row j);
  sums : (j : ℕ) → j < l.earlier → AddedFits (tightening l.plant l.noise l.row j) (carried l.plant l.row j) l.noise;
}
