-- Whole numbers as fractions always fit.
use Rattle.std.proofs.Common.{◌≡◌, ◌≢◌, ◌^◌, ◌<◌, ℤ, pos, unsigned_abs, ◌↔◌, Result, Err, sym, ◌∙◌, subst, ap, lit<, lit≤, to_z, ℕ, ◌≤◌, arith}
use Rattle.std.specs.Int.{w128}
use Rattle.std.proofs.lemmas.Int.{to_z_pos}
use Rattle.mpc_exact.specs.Rational.{ℚ, int, quotient}
use Rattle.mpc_exact.proofs.School.{quotient_positive, int_parts}
use Rattle.mpc_frac.specs.Fits.{FitsFrac}
use Rattle.mpc_frac.specs.declared.FracError.{FracError}
use Rattle.mpc_frac.specs.declared.FracError.TheVariants.{ZeroDenominator, Wide}

over_one : (z : ℤ) → quotient z (pos 1) ≡ int z
over_one z = quotient_positive z 1 (lit< tt)

whole_fits : (z : ℤ) → unsigned_abs z < 2 ^ 127 → FitsFrac (quotient z (pos 1))
whole_fits z h =
    let p = int_parts z in
    subst (λ (x : ℚ). FitsFrac x) (sym (over_one z)) (subst (λ n. n < 2 ^ 127) (sym (ap unsigned_abs p.0)) h, subst (λ n. n < 2 ^ 127) (sym p.1) (lit< tt))

-- n is the number as the code reads it
module _ (z n : ℤ) (e : n ≡ z) (h : unsigned_abs z < 2 ^ 127) where
  pub made_is : quotient n (pos 1) ≡ int z
  made_is = over_one n ∙ ap int e

  pub made_always : (r : Result ℚ FracError) → ((r ≡ Err ZeroDenominator) ↔ (pos 1 ≡ pos 0)) → ((r ≡ Err Wide) ↔ ((pos 1 ≢ pos 0) × (¬ FitsFrac (quotient n (pos 1))))) → (e : FracError) → r ≡ Err e → ⊥
  made_always r zero wide ZeroDenominator k = some (zero.0 k)
    where
      some : pos 1 ≡ pos 0 → ⊥
      some e = cc
  made_always r zero wide Wide k = (wide.0 k).1 (whole_fits n (subst (λ (z : ℤ). unsigned_abs z < 2 ^ 127) (sym e) h))

-- a count as the code reads it
pub count_back : (n : ℕ) → n < 2 ^ 64 → int (to_z w128 n) ≡ int (pos n)
count_back n h = ap int (to_z_pos w128 n (let k : 2 ^ 64 ≤ 2 ^ 127 = lit≤ tt in omega arith))
