-- One pivot is the first that isn't positive, or that is too wide.
use Rattle.std.proofs.Common.{◌≡◌, ℕ, ◌-◌, ◌<◌, ◌≤◌, ◌⊎◌, inl, inr, pos, sym, subst, arith}
use Rattle.std.proofs.lemmas.Bool.{cases_lt}
use Rattle.mpc_exact.specs.Rational.{ℚ, int, ◌≤ℚ◌, ◌<ℚ◌}
use Rattle.mpc_exact.proofs.RationalOrder.{<ℚ-≤ℚ_trans, <ℚ_irrefl}
use Rattle.mpc_definite.specs.Pivots.{pivot, PassesBelow, IsFirstNotPositive, IsFirstWide}

-- ---- three cases of two numbers
order : (k n : ℕ) → (k < n) ⊎ ((k ≡ n) ⊎ (n < k))
order k n = order_by (cases_lt k n) (cases_lt n k)
  where
    order_by : (k < n) ⊎ (n ≤ k) → (n < k) ⊎ (k ≤ n) → (k < n) ⊎ ((k ≡ n) ⊎ (n < k))
    order_by (inl below) over = inl below
    order_by (inr above) (inl over) = inr (inr over)
    order_by (inr above) (inr under) = inr (inl (omega arith))

one_of : (k n : ℕ) → (k < n → ⊥) → (n < k → ⊥) → k ≡ n
one_of k n a b = by (order k n)
  where
    by : (k < n) ⊎ ((k ≡ n) ⊎ (n < k)) → k ≡ n
    by (inl h) = absurd (a h)
    by (inr (inl h)) = h
    by (inr (inr h)) = absurd (b h)

-- ---- pivots
apart : {x : ℚ} → x ≤ℚ int (pos 0) → int (pos 0) <ℚ x → ⊥
apart low high = <ℚ_irrefl (<ℚ-≤ℚ_trans high low)

module _ (h : ℕ → ℕ → ℚ) (n : ℕ) where
  pub passes_not_positive : PassesBelow h n n → (j : ℕ) → IsFirstNotPositive h n j → ⊥
  passes_not_positive p j f = apart f.here (p.positive (j - 1) (omega (arith, f.some, f.within)))

  pub passes_wide : PassesBelow h n n → (j : ℕ) → IsFirstWide h n j → ⊥
  passes_wide p j f = f.here (p.fits (j - 1) (omega (arith, f.some, f.within)))

  pub one_not_positive : (j k : ℕ) → IsFirstNotPositive h n j → IsFirstNotPositive h n k → j ≡ k
  one_not_positive j k f g = one_of j k (λ l. apart f.here (g.before.positive (j - 1) (omega (arith, f.some)))) (λ l. apart g.here (f.before.positive (k - 1) (omega (arith, g.some))))

  pub one_pivot_wide : (j k : ℕ) → IsFirstWide h n j → IsFirstWide h n k → j ≡ k
  one_pivot_wide j k f g = one_of j k (λ l. f.here (g.before.fits (j - 1) (omega (arith, f.some)))) (λ l. g.here (f.before.fits (k - 1) (omega (arith, g.some))))

  pub not_both : (j k : ℕ) → IsFirstNotPositive h n j → IsFirstWide h n k → ⊥
  not_both j k f g = by (order j k)
    where
      by : (j < k) ⊎ ((j ≡ k) ⊎ (k < j)) → ⊥
      by (inl l) = apart f.here (g.before.positive (j - 1) (omega (arith, f.some)))
      by (inr (inl e)) = apart f.here (subst (λ m. int (pos 0) <ℚ pivot h (m - 1)) (sym e) g.positive)
      by (inr (inr l)) = g.here (f.before.fits (k - 1) (omega (arith, g.some)))
