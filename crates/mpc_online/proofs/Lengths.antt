-- The full length of a step, from its excess and its slope.
use Rattle.std.proofs.Common.{◌≡◌, ◌≢◌, ℕ, List, [], ◌∷◌, pos, sym, ◌∙◌, ap, subst, Option, Some, None, Result, IfOk, MatchResult}
use Rattle.mpc_exact.specs.Rational.{ℚ, int, ◌-ℚ◌, ◌*ℚ◌, neg_ℚ, inv_ℚ}
use Rattle.mpc_exact.proofs.RationalRing.{reads, by_ring, by_equation}
use Rattle.mpc_frac.specs.Fits.{FitsFrac}
use Rattle.mpc_frac.specs.declared.Wide.{Wide}
use Rattle.mpc_space.proofs.Outcomes.{value_as, fits_as}
use Rattle.mpc_linear.specs.Dot.{DotFits}
use Rattle.mpc_rows.specs.declared.programs.Qp.{Qp}
use Rattle.mpc_rows.specs.ActiveSets.{row_of}
use Rattle.mpc_online.specs.StateRows.{level, side}
use Rattle.mpc_online.specs.Positions.{Position}
use Rattle.mpc_online.specs.Turns.{full_length}
use Rattle.mpc_online.specs.Widths.{TestFits, FullFits}
use Rattle.mpc_online.specs.Shared.{IsSlopeOf}

pub negative_not_zero : (x y : ℚ) → x ≡ neg_ℚ y → y ≢ int (pos 0) → x ≢ int (pos 0)
negative_not_zero x y is h e = h (by_equation (neg_ℚ (int (pos 1))) (sym is ∙ e) (by_ring (x ∷ y ∷ []) (search reads depth 30) (search reads depth 30) tt))

module _ (qp : Qp) (b : List ℚ) (p : Position) (d point : List ℚ) (point_is : point ≡ p.point) (a s n : ℚ) (a_is : a ≡ level qp point p.row -ℚ side b p.row) (s_is : s ≡ level qp d p.row) (n_is : n ≡ neg_ℚ s) where
  excess_is : a ≡ level qp p.point p.row -ℚ side b p.row
  excess_is = a_is ∙ ap (λ z. level qp z p.row -ℚ side b p.row) point_is

  quotient_is : a *ℚ inv_ℚ n ≡ full_length qp b p d
  quotient_is = λ t. excess_is t *ℚ inv_ℚ ((n_is ∙ ap neg_ℚ s_is) t)

  pub full_value : (r : Result ℚ Wide) → IfOk r (λ v. v ≡ a *ℚ inv_ℚ n) → IfOk r (λ v. v ≡ full_length qp b p d)
  full_value r h = value_as r (a *ℚ inv_ℚ n) (full_length qp b p d) quotient_is h

  pub full_fits : TestFits qp b point p.row → DotFits (row_of qp.g.rows p.row) d → (r : Result ℚ Wide) → MatchResult r (λ _. FitsFrac (a *ℚ inv_ℚ n)) (λ _. ¬ FitsFrac (a *ℚ inv_ℚ n)) → MatchResult r (λ _. FullFits qp b p d) (λ _. ¬ FullFits qp b p d)
  full_fits test slope r h = fits_as r (FitsFrac (a *ℚ inv_ℚ n)) (FullFits qp b p d)
      (λ f. record { test = subst (λ z. TestFits qp b z p.row) point_is test; slope = slope; quotient = subst FitsFrac quotient_is f })
      (λ f. subst FitsFrac (sym quotient_is) f.quotient) h

pub wide_excess : (qp : Qp) (b : List ℚ) (p : Position) (d point : List ℚ) → point ≡ p.point → ¬ TestFits qp b point p.row → ¬ FullFits qp b p d
wide_excess qp b p d point is h f = h (subst (λ z. TestFits qp b z p.row) (sym is) f.test)

-- ---- the slope that is kept
pub slope_there : (qp : Qp) (r : ℕ) (d : List ℚ) (o : Option ℚ) (s : ℚ) → o ≡ Some s → IsSlopeOf qp r d o → DotFits (row_of qp.g.rows r) d × (s ≡ level qp d r)
slope_there qp r d o s is h = subst (IsSlopeOf qp r d) is h

pub wide_slope : (qp : Qp) (b : List ℚ) (p : Position) (d : List ℚ) (o : Option ℚ) → o ≡ None → IsSlopeOf qp p.row d o → ¬ FullFits qp b p d
wide_slope qp b p d o is h f = (subst (IsSlopeOf qp p.row d) is h) f.slope
