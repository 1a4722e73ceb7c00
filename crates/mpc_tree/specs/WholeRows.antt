-- The rows of a law in whole numbers: each matrix over one denominator.
use Rattle.std.specs.Prelude.{◌≡◌, ℕ, suc, ◌<◌, ◌≤◌, ◌^◌, List, [], length, get_or, ℤ, pos, neg_ℤ, ◌*ℤ◌, unsigned_abs, IfSome}
use Rattle.mpc_exact.specs.Rational.{ℚ, int, ◌*ℚ◌}
use Rattle.mpc_space.specs.Vector.{coordinate}
use Rattle.mpc_space.specs.Matrix.{RationalMatrix, height, entry}
use Rattle.mpc_linear.specs.declared.integers.RowInt.{RowInt}
use Rattle.mpc_linear.specs.Whole.{AreSmall}
use Rattle.mpc_rows.specs.declared.programs.Qp.{Qp}
use Rattle.mpc_rows.specs.declared.laws.Law.{Law}
use Rattle.mpc_rows.specs.LawRows.{excess_form, IsLawRow}
use Rattle.mpc_sweep.specs.declared.numbers.Swept.{Swept}
use Rattle.mpc_sweep.specs.Numbers.{IsSwept}
use Rattle.mpc_systems.specs.Writing.{IsOfSize}
use Rattle.mpc_tree.specs.declared.rows.RowNumbers.{RowNumbers}
use Rattle.mpc_tree.specs.declared.rows.LawNumbers.{LawNumbers}

-- the numbers of a matrix over one denominator
abbrev pub IsRead : RationalMatrix → Swept → Type 0
IsRead m s = IsSwept (entry m) [] (height m) m.columns 0 s

-- those of a program's rows
pub record AreRowNumbers (qp : Qp) (n : RowNumbers) : Type 0 where
  pub left : IsRead qp.g n.g
  pub right : IsRead qp.w n.w

-- those of a law's unknowns and of its multipliers, and the negative of the product of the unknowns' denominator with that of g
pub record AreLawNumbers (law : Law) (n : RowNumbers) (l : LawNumbers) : Type 0 where
  pub moves : IsRead law.moves l.moves
  pub mults : IfSome l.mults (IsRead law.mults)
  pub against : l.against ≡ pos n.g.den *ℤ neg_ℤ (pos l.moves.den)
  pub small : unsigned_abs l.against ≤ 2 ^ 62

-- the product of the three denominators
abbrev pub all_dens : RowNumbers → LawNumbers → ℚ
all_dens n l = int (pos n.w.den) *ℚ (int (pos n.g.den) *ℚ int (pos l.moves.den))

-- the coefficient of a row's form on the extended count j, times that product
abbrev pub IsExcess : Qp → Law → RowNumbers → LawNumbers → ℕ → ℕ → ℤ → Type 0
IsExcess qp law n l i j z = int z ≡ all_dens n l *ℚ coordinate (excess_form qp law i) j

-- the coefficients of a form on t, times a scale, so far as they are formed
pub record AreSides (scale : ℚ) (form : List ℚ) (count : ℕ) (v : List ℤ) : Type 0 where
  pub size : length v ≡ count
  pub each : (k : ℕ) → k < length v → int (get_or v k (pos 0)) ≡ scale *ℚ coordinate form (suc k)
  pub small : AreSmall v

-- row i of a law, with a coefficient for each count
pub record IsPlainRow (qp : Qp) (law : Law) (i : ℕ) (row : RowInt) : Type 0 where
  pub is_row : IsLawRow qp law i row
  pub plain : IsOfSize (length qp.counts) row
