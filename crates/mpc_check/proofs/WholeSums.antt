-- Sums of products of whole numbers over one denominator.
use Rattle.std.proofs.Common.{◌≡◌, ℕ, ◌*◌, ◌^◌, ◌<◌, ◌≤◌, ℤ, pos, ◌+ℤ◌, ◌*ℤ◌, unsigned_abs, [], ◌∷◌, sym, ◌∙◌, ap, subst, arith, mul-one, mul-le-mul_right, le_trans, lit<, to_z, of_z}
use Rattle.std.proofs.Math.Nat.{mul-le-mul_left}
use Rattle.std.specs.Int.{w64, w128}
use Rattle.std.proofs.lemmas.Int.{unsigned_abs-mul, fits_signed_from_abs, to_z-of_z}
use lib.Signed.{mag}
use Rattle.mpc_exact.specs.Rational.{frac, int, ◌+ℚ◌, ◌*ℚ◌}
use Rattle.mpc_exact.proofs.IntRing.{int_reads, by_ring_ℤ}
use Rattle.mpc_exact.proofs.Rational.{same_frac, frac_same}
use Rattle.mpc_linear.specs.Dot.{TermFits}
use Rattle.mpc_wholes.specs.OverTheorems.{OverTheorems}

-- ---- numbers as the code reads them
pub read_wide : (z : ℤ) → mag z < 2 ^ 127 → to_z w128 (of_z w128 z) ≡ z
read_wide z h = to_z-of_z w128 z (record { sfits = h })

pub read_sum : (z : ℤ) → unsigned_abs z ≤ 2 ^ 126 → to_z w128 (of_z w128 z) ≡ z
read_sum z h = to_z-of_z w128 z (fits_signed_from_abs w128 z (omega arith))

pub read_narrow : (z : ℤ) → unsigned_abs z ≤ 2 ^ 62 → to_z w64 (of_z w64 z) ≡ z
read_narrow z h = to_z-of_z w64 z (fits_signed_from_abs w64 z (omega arith))

-- ---- one term more
pub product_at_most : (w z : ℤ) (m : ℕ) → unsigned_abs w ≤ m → unsigned_abs z ≤ m → unsigned_abs (w *ℤ z) ≤ m * m
product_at_most w z m h k = subst (λ n. n ≤ m * m) (sym (unsigned_abs-mul w z)) (le_trans (mul-le-mul_right (unsigned_abs z) h) (mul-le-mul_left m k))

module _ (laws : OverTheorems) (all : ℕ) (some : 0 < all) (few : all ≤ 2 ^ 124) (total weight number : ℤ) (t : unsigned_abs total ≤ 2 ^ 126) (w : unsigned_abs weight ≤ 2 ^ 62) (n : unsigned_abs number ≤ 2 ^ 62) where
  pub next_is : (next : ℤ) → next ≡ total +ℤ (weight *ℤ number) → frac next all ≡ frac total all +ℚ frac weight all *ℚ int number
  next_is next e =
      subst (λ d. frac next d ≡ frac total d +ℚ frac weight all *ℚ int number) (mul-one all) (ap (λ z. frac z (all * 1)) e ∙ laws.next total weight number all 1 some (lit< tt))

  pub term_fits : TermFits (frac total all) (frac weight all) (int number)
  term_fits =
      let p : unsigned_abs (weight *ℤ number) ≤ 2 ^ 62 * 2 ^ 62 = product_at_most weight number (2 ^ 62) w n in
      subst (λ d. TermFits (frac total d) (frac weight all) (int number)) (mul-one all) (laws.fits total weight number all 1 some (lit< tt) (omega arith) (omega (arith, t, p)))

-- ---- what a sum over a denominator is
pub zero_over : (m : ℕ) → 0 < m → frac (pos 0) m ≡ int (pos 0)
zero_over m some = same_frac (pos 0) m (pos 0) 1 some (lit< tt) (no_times (pos m))
  where
    no_times : (d : ℤ) → pos 0 *ℤ pos 1 ≡ pos 0 *ℤ d
    no_times d = by_ring_ℤ (d ∷ []) (search int_reads depth 30) (search int_reads depth 30) tt

pub zero_at : (z : ℤ) (m : ℕ) → 0 < m → frac z m ≡ int (pos 0) → z ≡ pos 0
zero_at z m some e = one_times z (pos m) (frac_same z m (pos 0) 1 some (lit< tt) e)
  where
    one_times : (z d : ℤ) → z *ℤ pos 1 ≡ pos 0 *ℤ d → z ≡ pos 0
    one_times z d h = by_ring_ℤ (z ∷ []) (search int_reads depth 30) (search int_reads depth 30) tt ∙ h ∙ by_ring_ℤ (d ∷ []) (search int_reads depth 30) (search int_reads depth 30) tt
