-- One sweep in whole numbers, number by number.
use Rattle.std.specs.Prelude.{◌≡◌, ◌≢◌, ℕ, ◌+◌, ◌*◌, ◌<◌, ◌≤◌, ◌^◌, List, ℤ, pos, ◌-◌, ◌+ℤ◌, ◌*ℤ◌, neg_ℤ, unsigned_abs}
use Rattle.mpc_runs.specs.WholeNumbers.{turned}
use Rattle.mpc_scaled.specs.Scaled.{whole_at, whole_cell}
use Rattle.mpc_sweep.specs.declared.numbers.Swept.{Swept}
use Rattle.mpc_sweep.specs.Numbers.{told_columns, number}

-- z stands in row i and column j once numbers over this denominator, in rows of this width, are swept at row p, and so much is taken out
-- of all numbers and of the new denominator, which is this one times the pivot
pub record IsNumber (width den by : ℕ) (v : List ℤ) (p i j : ℕ) (z : ℤ) : Type 0 where
  pub own : i ≡ p → z *ℤ pos by ≡ turned (whole_cell width v p p) (whole_cell width v p j) *ℤ pos den
  pub other : i ≢ p → z *ℤ pos by ≡ (whole_cell width v i j *ℤ pos (unsigned_abs (whole_cell width v p p))) +ℤ neg_ℤ (turned (whole_cell width v p p) (whole_cell width v i p) *ℤ whole_cell width v p j)

-- z stands in column j of the row of the sweep, by that row before
abbrev pub IsOwn : ℕ → ℕ → List ℤ → ℕ → ℕ → ℤ → Type 0
IsOwn den by top p j z = z *ℤ pos by ≡ turned (whole_at top p) (whole_at top j) *ℤ pos den

-- z stands in column j of another row, which has nothing in the column of the sweep, by the row of before and the size of the pivot
abbrev pub IsScaled : ℕ → ℕ → List ℤ → ℕ → ℤ → Type 0
IsScaled by size row j z = z *ℤ pos by ≡ whole_at row j *ℤ pos size

-- z stands in column j of another row, by the row of before and that of the sweep
abbrev pub IsChanged : ℕ → List ℤ → List ℤ → ℕ → ℕ → ℤ → Type 0
IsChanged by row top p j z = z *ℤ pos by ≡ (whole_at row j *ℤ pos (unsigned_abs (whole_at top p))) +ℤ neg_ℤ (turned (whole_at top p) (whole_at row p) *ℤ whole_at top j)

-- the numbers of a list from this place on and below another one are so, and none is above a bound; those before them are as they were
pub record AreWritten (most first count : ℕ) (is : ℕ → ℤ → Type 0) (old new : List ℤ) : Type 0 where
  pub kept : (k : ℕ) → k < first → whole_at new k ≡ whole_at old k
  pub numbers : (j : ℕ) → first ≤ j → j < count → is j (whole_at new j)
  pub small : (j : ℕ) → first ≤ j → j < count → unsigned_abs (whole_at new j) ≤ most

-- the first so many rows, in so many columns from this one on; no number is above a bound, nor one before them
pub record AreRows (most width den by : ℕ) (v : List ℤ) (p first told count : ℕ) (new : List ℤ) : Type 0 where
  pub numbers : (i j : ℕ) → i < count → first ≤ j → j < first + told → IsNumber width den by v p i j (whole_cell told new i j)
  pub small : (k : ℕ) → k < first + count * told → unsigned_abs (whole_at new k) ≤ most

-- all rows of a table that is swept at row p, over this denominator; neither it nor a number is above a bound
pub record AreSweptRows (from : Swept) (p first den most : ℕ) (new : List ℤ) : Type 0 where
  pub by : ℕ
  pub some : 0 < by
  pub den_some : 0 < den
  pub den_is : den * by ≡ from.den * unsigned_abs (number from p p)
  pub den_small : den ≤ most
  pub small : most ≤ 2 ^ 62
  pub rows : AreRows most (told_columns from) from.den by from.numbers.items p first (from.columns - first) from.rows new
