-- The fractions that a run in whole numbers answers.
use Rattle.std.proofs.Common.{◌≡◌, ℕ, ◌*◌, ◌<◌, ℤ, pos, ◌*ℤ◌, neg_ℤ, [], ◌∷◌, sym, ◌∙◌, ap, mul-pos, lit<}
use Rattle.mpc_exact.specs.Rational.{ℚ, frac, quotient, neg_ℚ}
use Rattle.mpc_exact.proofs.IntRing.{int_reads, by_ring_ℤ}
use Rattle.mpc_exact.proofs.Rational.{same_frac, frac-neg}
use Rattle.mpc_exact.proofs.School.{frac-div_positive}

over_one : (z d : ℤ) → (z *ℤ pos 1) *ℤ d ≡ z *ℤ (pos 1 *ℤ d)
over_one z d = by_ring_ℤ (z ∷ d ∷ []) (search int_reads depth 30) (search int_reads depth 30) tt

pub quotient_over : (z : ℤ) (d : ℕ) → 0 < d → quotient z (pos d) ≡ frac z d
unfolding quotient
quotient_over z d h = frac-div_positive z 1 d 1 (lit< tt) h (lit< tt) ∙ same_frac (z *ℤ pos 1) (1 * d) z d (mul-pos (lit< tt) h) h (over_one z (pos d))

pub negative_over : (x : ℚ) (m z : ℤ) (d : ℕ) → 0 < d → m ≡ neg_ℤ z → x ≡ frac z d → frac m d ≡ neg_ℚ x
negative_over x m z d h e f = ap (λ u. frac u d) e ∙ sym (ap neg_ℚ f ∙ frac-neg z d h)
