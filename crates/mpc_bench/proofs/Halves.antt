-- A number and its halves.
use Rattle.std.proofs.Common.{◌≡◌, ◌≢◌, ℕ, suc, ◌+◌, ◌*◌, ◌/◌, ◌%◌, ◌^◌, ◌<◌, ℤ, pos, negsuc, neg_ℤ, unsigned_abs, Bool, true, false, if◌then◌else◌, refl, sym, ◌∙◌, ap, arith, div-add-mod', subst, zero, to_z, of_z}
use Rattle.std.proofs.lemmas.Int.{ints, to_z-of_z}
use Rattle.std.specs.Int.{w128}
use Rattle.std.proofs.lemmas.Bool.Decides.{nat_tests}
use lib.Signed.{lt_z, mag}
use Rattle.mpc_exact.specs.Rational.{ℚ, frac_self, denom_positive, quotient}
use Rattle.mpc_exact.proofs.School.{quotient_positive}
use Rattle.mpc_frac.specs.Fits.{FitsFrac}
use Rattle.mpc_frac.specs.FitTheorems.{FitTheorems}

not_negative : (n : ℕ) → lt_z (pos n) (pos 0) ≡ false
not_negative n = grind (arith, nat_tests)

signed_back : (z : ℤ) → (if lt_z z (pos 0) then neg_ℤ (pos (unsigned_abs z)) else pos (unsigned_abs z)) ≡ z
signed_back (pos n) = ap (λ b. if b then neg_ℤ (pos n) else pos n) (not_negative n)
signed_back (negsuc n) = refl

not_zero : (d : ℕ) → 0 < d → pos d ≢ pos 0
not_zero d h e = absurd (omega (arith, ints))

itself : (x : ℚ) → quotient x.numer (pos x.denom) ≡ x
itself x = quotient_positive x.numer x.denom (denom_positive x) ∙ frac_self x

-- a number of the code's width is read back from its bits
pub read_fitting : (z : ℤ) → mag z < 2 ^ 127 → to_z w128 (of_z w128 z) ≡ z
read_fitting z h = to_z-of_z w128 z (record { sfits = h })

pub halves_back : (x : ℚ) (z : ℤ) (s d : ℕ) → z ≡ x.numer → s ≡ unsigned_abs x.numer → d ≡ x.denom
    → quotient (if lt_z z (pos 0) then neg_ℤ (pos (s / 2 ^ 64 * 2 ^ 64 + s % 2 ^ 64)) else pos (s / 2 ^ 64 * 2 ^ 64 + s % 2 ^ 64)) (pos (d / 2 ^ 64 * 2 ^ 64 + d % 2 ^ 64)) ≡ x
halves_back x z s d p q r =
    (λ i. quotient (if lt_z (p i) (pos 0) then neg_ℤ (pos ((div-add-mod' s (2 ^ 64) ∙ q) i)) else pos ((div-add-mod' s (2 ^ 64) ∙ q) i)) (pos ((div-add-mod' d (2 ^ 64) ∙ r) i)))
    ∙ ap (λ m. quotient m (pos x.denom)) (signed_back x.numer) ∙ itself x

abs_same : (b : Bool) (n : ℕ) → unsigned_abs (if b then neg_ℤ (pos n) else pos n) ≡ n
abs_same true zero = refl
abs_same true (suc n) = refl
abs_same false n = refl

pub readable_fits : FitTheorems → (b : Bool) (s d : ℕ) → s < 2 ^ 127 → d < 2 ^ 127 → 0 < d → FitsFrac (quotient (if b then neg_ℤ (pos s) else pos s) (pos d))
readable_fits laws b s d h k p = laws.quotient (if b then neg_ℤ (pos s) else pos s) (pos d) (not_zero d p) (subst (λ n. n < 2 ^ 127) (sym (abs_same b s)) h) k

pub positive_not_zero : (d : ℕ) → 0 < d → pos d ≡ pos 0 → ⊥
positive_not_zero d h e = not_zero d h e
