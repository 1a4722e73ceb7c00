-- Products of fractions over denominators, and sums with one of them more.
use Rattle.std.proofs.Common.{◌≡◌, ℕ, ◌+◌, ◌*◌, ◌^◌, ◌<◌, ℤ, pos, ◌+ℤ◌, ◌*ℤ◌, unsigned_abs, [], ◌∷◌, sym, ◌∙◌, ap, subst, arith, mul-pos}
use Rattle.mpc_exact.specs.Rational.{frac, ◌+ℚ◌, ◌*ℚ◌}
use Rattle.mpc_exact.proofs.IntRing.{int_reads, by_ring_ℤ}
use Rattle.mpc_exact.proofs.Rational.{same_frac, frac-add, frac-mul}
use Rattle.mpc_frac.specs.Fits.{FitsFrac, FitsSum}
use Rattle.mpc_linear.specs.Dot.{TermFits}
use Rattle.mpc_wholes.specs.OverTheorems.{OverTheorems}
use Rattle.mpc_wholes.proofs.WholeFits.{fits_over, fits_sum_over}

same_sum : (a c d : ℤ) → (a *ℤ d +ℤ c *ℤ d) *ℤ d ≡ (a +ℤ c) *ℤ (d *ℤ d)
same_sum a c d = by_ring_ℤ (a ∷ c ∷ d ∷ []) (search int_reads depth 30) (search int_reads depth 30) tt

sum_over : (a c : ℤ) (m : ℕ) → 0 < m → frac a m +ℚ frac c m ≡ frac (a +ℤ c) m
sum_over a c m h = frac-add a m c m h h ∙ same_frac (a *ℤ pos m +ℤ c *ℤ pos m) (m * m) (a +ℤ c) m (mul-pos h h) h (same_sum a c (pos m))

pub next_over : (total a b : ℤ) (d e : ℕ) → 0 < d → 0 < e → frac (total +ℤ (a *ℤ b)) (d * e) ≡ frac total (d * e) +ℚ frac a d *ℚ frac b e
next_over total a b d e h k = sym (sum_over total (a *ℤ b) (d * e) (mul-pos h k)) ∙ ap (λ z. frac total (d * e) +ℚ z) (sym (frac-mul a d b e h k))

small_part : (m n : ℕ) → m + n < 2 ^ 127 → n < 2 ^ 127
small_part m n h = omega (arith, h)

pub term_fits : (total a b : ℤ) (d e : ℕ) → 0 < d → 0 < e → d * e < 2 ^ 127 → unsigned_abs total + unsigned_abs (a *ℤ b) < 2 ^ 127 → TermFits (frac total (d * e)) (frac a d) (frac b e)
term_fits total a b d e h k den sizes = record {
  product = subst (λ z. FitsFrac z) (sym (frac-mul a d b e h k)) (fits_over (a *ℤ b) (d * e) (mul-pos h k) (small_part (unsigned_abs total) (unsigned_abs (a *ℤ b)) sizes) den);
  sum = subst (λ z. FitsSum (frac total (d * e)) z) (sym (frac-mul a d b e h k)) (fits_sum_over total (a *ℤ b) (d * e) (mul-pos h k) sizes den);
}

pub over_theorems : OverTheorems
over_theorems = record { next = next_over; fits = term_fits; one = fits_over; both = fits_sum_over; sum = sum_over }
