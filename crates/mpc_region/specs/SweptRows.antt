-- A row of a swept table as a row in whole numbers without a common divisor.
use Rattle.std.specs.Prelude.{◌≡◌, ℕ, suc, ◌+◌, ◌<◌, List, length, map, get_or, ℤ, pos, ◌*ℤ◌, neg_ℤ, unsigned_abs}
use Rattle.std.specs.Int.{◌∣◌}
use Rattle.mpc_linear.specs.declared.integers.RowInt.{RowInt}
use Rattle.mpc_rows.specs.declared.programs.Qp.{Qp}
use Rattle.mpc_rows.specs.declared.laws.Law.{Law}
use Rattle.mpc_rows.specs.LinearSystem.{LinearSystem}
use Rattle.mpc_rows.specs.LawRows.{AreLawRows, whole_row}
use Rattle.mpc_sweep.specs.declared.numbers.Swept.{Swept}
use Rattle.mpc_sweep.specs.Numbers.{number}

-- the numbers of a row from this column on
abbrev pub number_from : Swept → ℕ → ℕ → ℕ → ℤ
number_from s i first j = number s i (first + j)

-- n divides each of so many numbers
pub record DividesEach (n : ℕ) (f : ℕ → ℤ) (count : ℕ) : Type 0 where
  pub each : (j : ℕ) → j < count → n ∣ unsigned_abs (f j)

-- the greatest such n; 0 where all of the numbers are 0
pub record IsSharedBy (f : ℕ → ℤ) (count g : ℕ) : Type 0 where
  pub divides : DividesEach g f count
  pub greatest : (n : ℕ) → DividesEach n f count → n ∣ g

-- these integers, each times the number, are the negatives of those behind the first
pub record AreSides (f : ℕ → ℤ) (by : ℕ) (sides : List ℤ) : Type 0 where
  pub each : (j : ℕ) → j < length sides → get_or sides j (pos 0) *ℤ pos by ≡ neg_ℤ (f (suc j))

-- The row whose sides are the negatives of so many numbers behind the first, and whose bound is the first, all over the greatest number
-- that divides them.
pub record IsRowFrom (f : ℕ → ℤ) (width : ℕ) (row : RowInt) : Type 0 where
  pub by : ℕ
  pub shared : ℕ
  pub positive : 0 < by
  pub is_shared : IsSharedBy f (suc width) shared
  pub same : 0 < shared → by ≡ shared
  pub size : length row.a ≡ width
  pub sides : AreSides f by row.a
  pub bound : row.b *ℤ pos by ≡ f 0

-- the rows of a law as a system in the unknowns t
pub record AreRowsOf (qp : Qp) (law : Law) (s : LinearSystem) : Type 0 where
  pub list : List RowInt
  pub of_law : AreLawRows qp law list
  pub width : s.width ≡ length qp.counts
  pub rows : s.rows ≡ map whole_row list
