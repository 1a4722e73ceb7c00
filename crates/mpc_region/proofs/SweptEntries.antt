-- The entries of a swept table as fractions, which always fit.
use Rattle.std.proofs.Common.{◌≡◌, ◌≢◌, ℕ, ◌^◌, ◌<◌, ◌≤◌, ℤ, pos, unsigned_abs, to_z, of_z, ◌↔◌, Result, Err, sym, ◌∙◌, ap, subst, arith}
use Rattle.std.specs.Int.{w64, w128}
use Rattle.std.proofs.lemmas.Int.{ints}
use Rattle.mpc_exact.specs.Rational.{ℚ, frac, quotient}
use Rattle.mpc_exact.proofs.School.{quotient_positive}
use Rattle.mpc_space.proofs.Words.{read_natural}
use Rattle.mpc_frac.specs.Fits.{FitsFrac}
use Rattle.mpc_frac.specs.FitTheorems.{FitTheorems}
use Rattle.mpc_frac.specs.declared.FracError.{FracError}
use Rattle.mpc_frac.specs.declared.FracError.TheVariants.{ZeroDenominator, Wide}
use Rattle.mpc_sweep.specs.declared.numbers.Swept.{Swept}
use Rattle.mpc_sweep.specs.Numbers.{IsTable, number}
use Rattle.mpc_region.proofs.SweptDivisors.{read_wide}

module _ (table : Swept) (is : IsTable table) (i j : ℕ) where
  number_small : unsigned_abs (number table i j) ≤ 2 ^ 62
  number_small = is.small.each _

  -- z and d as the code reads them
  module _ (z : ℤ) (d : ℕ) (e : z ≡ number table i j) (q : d ≡ table.den) where
    read_entry : to_z w128 (of_z w128 (to_z w64 (of_z w64 z))) ≡ number table i j
    read_entry = read_wide z (subst (λ y. unsigned_abs y ≤ 2 ^ 62) (sym e) number_small) ∙ e

    read_den : to_z w128 d ≡ pos table.den
    read_den = read_natural d (let b = is.small_den in omega arith) ∙ ap pos q

    pub entry_made : quotient (to_z w128 (of_z w128 (to_z w64 (of_z w64 z)))) (to_z w128 d) ≡ frac (number table i j) table.den
    entry_made = (λ u. quotient (read_entry u) (read_den u)) ∙ quotient_positive (number table i j) table.den is.some_den

    den_not_zero : to_z w128 d ≢ pos 0
    den_not_zero f = positive_some table.den is.some_den (sym read_den ∙ f)
      where
        positive_some : (n : ℕ) → 0 < n → pos n ≡ pos 0 → ⊥
        positive_some n h e = omega (arith, ints)

    pub entry_always : FitTheorems → (r : Result ℚ FracError) → ((r ≡ Err ZeroDenominator) ↔ (to_z w128 d ≡ pos 0))
        → ((r ≡ Err Wide) ↔ ((to_z w128 d ≢ pos 0) × (¬ FitsFrac (quotient (to_z w128 (of_z w128 (to_z w64 (of_z w64 z)))) (to_z w128 d))))) → (x : FracError) → r ≡ Err x → ⊥
    entry_always laws r zero wide ZeroDenominator k = den_not_zero (zero.0 k)
    entry_always laws r zero wide Wide k = (wide.0 k).1
        (laws.quotient (to_z w128 (of_z w128 (to_z w64 (of_z w64 z)))) (to_z w128 d) den_not_zero
        (subst (λ y. unsigned_abs y < 2 ^ 127) (sym read_entry) (let b = number_small in omega arith))
        (subst (λ y. unsigned_abs y < 2 ^ 127) (sym read_den) (let b = is.small_den in omega arith)))
