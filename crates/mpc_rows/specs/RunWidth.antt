-- Which numbers of a least-number run must fit: every operation of the run, and no other.
use Rattle.std.specs.Prelude.{◌≡◌, ℕ, ◌<◌, ◌≤◌, true, false, pos}
use Rattle.mpc_exact.specs.Rational.{int, ◌*ℚ◌, neg_ℚ, inv_ℚ}
use Rattle.mpc_frac.specs.Fits.{FitsFrac, FitsSum}
use Rattle.mpc_space.specs.Total.{total}
use Rattle.mpc_rows.specs.LinearSystem.{LinearSystem}
use Rattle.mpc_rows.specs.Run.{Position, goes_on, count, rest, turn, position, steps, entering_row}

-- the term of y in the value of x, in both parts, and its sum with what stands before it
pub record TermFits (s : LinearSystem) (p : Position) (x y : ℕ) : Type 0 where
  pub first_product : FitsFrac (p.coefficient x y *ℚ (rest s y).first)
  pub first_sum : FitsSum (total y (λ z. p.coefficient x z *ℚ (rest s z).first)) (p.coefficient x y *ℚ (rest s y).first)
  pub second_product : FitsFrac (p.coefficient x y *ℚ (rest s y).second)
  pub second_sum : FitsSum (total y (λ z. p.coefficient x z *ℚ (rest s z).second)) (p.coefficient x y *ℚ (rest s y).second)

-- the value of x, a dot over the nonbasic variables
pub record ValueFits (s : LinearSystem) (n : ℕ) (p : Position) (x : ℕ) : Type 0 where
  pub terms : (y : ℕ) → y < n → p.is_basic y ≡ false → TermFits s p x y

-- the values of the basic variables
pub record ValuesFit (s : LinearSystem) (n : ℕ) (p : Position) : Type 0 where
  pub values : (x : ℕ) → x < n → p.is_basic x ≡ true → ValueFits s n p x

-- the new row of the entering variable
pub record EnteringFits (n : ℕ) (p : Position) (l e : ℕ) : Type 0 where
  pub quotients : (y : ℕ) → y < n → p.is_basic y ≡ false → (y ≡ e → ⊥) → FitsFrac (neg_ℚ (p.coefficient l y) *ℚ inv_ℚ (p.coefficient l e))

-- the new coefficient on y in the row of x
pub record EntryFits (p : Position) (l e x y : ℕ) : Type 0 where
  pub product : FitsFrac (p.coefficient x e *ℚ entering_row p l e y)
  pub sum : FitsSum (p.coefficient x y) (p.coefficient x e *ℚ entering_row p l e y)

-- the new row of a basic variable x with a coefficient on the entering variable that isn't 0
pub record RowFits (n : ℕ) (p : Position) (l e x : ℕ) : Type 0 where
  pub leaving : FitsFrac (p.coefficient x e *ℚ entering_row p l e l)
  pub entries : (y : ℕ) → y < n → p.is_basic y ≡ false → (y ≡ e → ⊥) → EntryFits p l e x y

pub record RowsFit (n : ℕ) (p : Position) (l e : ℕ) : Type 0 where
  pub rows : (x : ℕ) → x < n → p.is_basic x ≡ true → (x ≡ l → ⊥) → (p.coefficient x e ≡ int (pos 0) → ⊥) → RowFits n p l e x

-- what is formed at one position
pub record PositionFits (s : LinearSystem) (p : Position) : Type 0 where
  pub values : ValuesFit s (count s) p
  pub entering : (l e : ℕ) → turn s p ≡ goes_on l e → EnteringFits (count s) p l e
  pub rows : (l e : ℕ) → turn s p ≡ goes_on l e → RowsFit (count s) p l e

-- no operation of the run is wide
pub record RunFits (s : LinearSystem) : Type 0 where
  pub fits : (k : ℕ) → k ≤ steps s → PositionFits s (position s k)
