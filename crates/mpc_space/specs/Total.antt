-- Sums over the numbers below n.
use Rattle.std.specs.Prelude.{ℕ, zero, suc, cond, eqb, pos}
use Rattle.mpc_exact.specs.Rational.{ℚ, int, ◌+ℚ◌}

-- f 0 + f 1 + .. + f (n - 1)
unfoldable pub total : ℕ → (ℕ → ℚ) → ℚ
total zero f = int (pos 0)
total (suc n) f = total n f +ℚ f n

-- 1 where i is j, else 0 (Kronecker's delta)
unfoldable pub unit : ℕ → ℕ → ℚ
unit i j = cond (eqb i j) (int (pos 1)) (int (pos 0))
