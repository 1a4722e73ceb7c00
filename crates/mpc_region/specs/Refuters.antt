-- The rows of a region's system in the numbers of the swept table that shows the law.
use Rattle.std.specs.Prelude.{◌≡◌, ℕ, suc, ◌+◌, ◌-◌, ◌*◌, ◌/◌, ◌%◌, ◌^◌, ◌<◌, ◌≤◌, cond, eqb, nat_lt, List, length, get_or, ℤ, pos, negsuc, neg_ℤ, unsigned_abs}
use Rattle.mpc_exact.specs.Rational.{ℚ, int, ◌*ℚ◌, ◌≤ℚ◌}
use Rattle.mpc_space.specs.Matrix.{height}
use Rattle.mpc_space.specs.Total.{total}
use Rattle.mpc_rows.specs.declared.programs.Qp.{Qp}
use Rattle.mpc_rows.specs.LinearSystem.{LinearSystem, height as row_count}
use Rattle.mpc_rows.specs.RunWidth.{RunFits}
use Rattle.mpc_scaled.specs.Scaled.{whole_at, whole_cell}
use Rattle.mpc_minors.specs.Lines.{most_coefficient}
use Rattle.mpc_minors.specs.SmallRows.{HasSmallRows}
use Rattle.mpc_sweep.specs.declared.numbers.Swept.{Swept}
use Rattle.mpc_sweep.specs.Numbers.{IsTable}
use Rattle.mpc_region.specs.Sweeps.{rights, all_columns}
use Rattle.mpc_region.specs.SweptRows.{number_from}

-- a table with a row for each unknown and each row of the program, and its right sides behind their columns
pub record IsTableFor (qp : Qp) (table : Swept) : Type 0 where
  pub is_table : IsTable table
  pub rows : table.rows ≡ rights qp
  pub columns : table.columns ≡ all_columns qp

-- ---- the numbers of a row: its coefficients on the states, then its right side
-- row 2i of the box says -t_i <= 0, and the one behind it t_i <= count_i
abbrev pub box_coefficient : ℕ → ℕ → ℤ
box_coefficient row j = cond (eqb j (row / 2)) (cond (eqb (row % 2) 0) (negsuc 0) (pos 1)) (pos 0)

abbrev pub box_side : List ℕ → ℕ → ℤ
box_side counts row = cond (eqb (row % 2) 0) (pos 0) (pos (get_or counts (row / 2) 0))

abbrev pub box_number : List ℕ → ℕ → ℕ → ℤ
box_number counts row j = cond (eqb j (length counts)) (box_side counts row) (box_coefficient row j)

-- a row of the law, counted from 0, times what its numbers in the table share
abbrev pub law_number : Qp → Swept → ℕ → ℕ → ℤ
law_number qp table row j =
    let first = number_from table (height qp.h + row) (rights qp) in
    cond (eqb j (length qp.counts)) (first 0) (neg_ℤ (first (suc j)))

-- the rows of the box, then those of the law
abbrev pub region_number : Qp → Swept → ℕ → ℕ → ℤ
region_number qp table row j =
    let box = 2 * length qp.counts in
    cond (nat_lt row box) (box_number qp.counts row j) (law_number qp table (row - box) j)

abbrev pub region_rows : Qp → ℕ
region_rows qp = 2 * length qp.counts + height qp.g

-- the list has the first numbers of the row
pub record IsLine (qp : Qp) (table : Swept) (row k : ℕ) (line : List ℤ) : Type 0 where
  pub each : (j : ℕ) → j < k → whole_at line j ≡ region_number qp table row j

-- the list has the numbers of the first k of these rows, one behind the other
pub record AreLines (qp : Qp) (table : Swept) (rows : List ℕ) (k : ℕ) (lines : List ℤ) : Type 0 where
  pub each : (i j : ℕ) → i < k → j < length qp.counts + 1 → whole_cell (length qp.counts + 1) lines i j ≡ region_number qp table (get_or rows i 0) j

-- ---- what they say
abbrev pub MeetsAt : Qp → Swept → (ℕ → ℚ) → ℕ → Type 0
MeetsAt qp table x row = total (length qp.counts) (λ j. int (region_number qp table row j) *ℚ x j) ≤ℚ int (region_number qp table row (length qp.counts))

-- no values of the states meet all rows
pub record ShowsNone (qp : Qp) (table : Swept) : Type 0 where
  pub none : (x : ℕ → ℚ) → ((row : ℕ) → row < region_rows qp → MeetsAt qp table x row) → ⊥

-- ---- sizes
-- no count is above the greatest right side of which rows are asked for a point
pub record AreSmallCounts (counts : List ℕ) : Type 0 where
  pub each : (k : ℕ) → k < length counts → get_or counts k 0 ≤ 2 ^ 50

-- a row of the law with small coefficients and a small right side
pub record IsSmallRow (qp : Qp) (table : Swept) (row : ℕ) : Type 0 where
  pub coefficients : (j : ℕ) → j < length qp.counts → unsigned_abs (law_number qp table row j) ≤ most_coefficient (length qp.counts)
  pub side : unsigned_abs (law_number qp table row (length qp.counts)) ≤ 2 ^ 50

pub record AreSmallNumbers (qp : Qp) (table : Swept) : Type 0 where
  pub counts : AreSmallCounts qp.counts
  pub rows : (row : ℕ) → row < height qp.g → IsSmallRow qp table row

-- no run over so many rows of such sizes forms a number that is wide
pub record HasRoom (qp : Qp) (table : Swept) : Type 0 where
  pub small : AreSmallNumbers qp table
  pub fits : (s : LinearSystem) → s.width ≡ length qp.counts → row_count s ≤ region_rows qp → HasSmallRows (most_coefficient (length qp.counts)) (2 ^ 50) s → RunFits s
