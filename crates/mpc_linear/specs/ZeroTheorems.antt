-- Adding 0 and multiplying by 0 are never too wide.
use Rattle.std.specs.Prelude.{◌≡◌, pos}
use Rattle.mpc_exact.specs.Rational.{ℚ, int, ◌*ℚ◌}
use Rattle.mpc_frac.specs.Fits.{FitsFrac, FitsSum}
use Rattle.mpc_linear.specs.Dot.{TermFits, TakenFits}

pub record ZeroTheorems : Type 0 where
  pub zero_fits : FitsFrac (int (pos 0))
  pub zero_added_fits : (x : ℚ) → FitsFrac x → FitsSum x (int (pos 0))
  -- s + x y
  pub to_zero_fits : (x y : ℚ) → FitsFrac (x *ℚ y) → TermFits (int (pos 0)) x y
  pub no_product_fits : (s x y : ℚ) → FitsFrac s → x *ℚ y ≡ int (pos 0) → TermFits s x y
  -- s - x y
  pub from_zero_fits : (x y : ℚ) → FitsFrac (x *ℚ y) → TakenFits (int (pos 0)) x y
  pub no_product_taken_fits : (s x y : ℚ) → FitsFrac s → x *ℚ y ≡ int (pos 0) → TakenFits s x y
