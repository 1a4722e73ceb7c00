-- What is kept of a program's swept tables from one of its sets to the next.
use Rattle.std.specs.Prelude.{ℕ, ◌+◌, ◌<◌, ◌≤◌, List, length, get_or, take}
use Rattle.mpc_space.specs.Matrix.{height}
use Rattle.mpc_rows.specs.declared.programs.Qp.{Qp}
use Rattle.mpc_rows.specs.ActiveSets.{IsIndependentSet}
use Rattle.mpc_rows.specs.SetRuns.{LawFits}
use Rattle.mpc_sweep.specs.declared.numbers.Swept.{Swept}
use Rattle.mpc_region.specs.LawEnd.{IsLawOfSet}
use Rattle.mpc_region.specs.Sweeps.{IsTableOf, swept_law}
use Rattle.mpc_region.specs.declared.sweeps.Sweeps.{Sweeps}
use Rattle.mpc_region.specs.declared.sweeps.SweptEnd.{SweptEnd}
use Rattle.mpc_region.specs.declared.sweeps.SweptEnd.TheVariants.{Dependent, Law}

-- right of the columns of h and of those of the first k members
pub record IsBehind (qp : Qp) (s : List ℕ) (k first : ℕ) : Type 0 where
  pub unknowns : height qp.h ≤ first
  pub members : (i : ℕ) → i < k → height qp.h + get_or s i 0 ≤ first

-- the table of the first k members, told in all columns right of theirs
abbrev pub IsTableOfFirst : Qp → List ℕ → ℕ → Swept → Type 0
IsTableOfFirst qp s k table = (first : ℕ) → IsBehind qp s k first → IsTableOf qp (take k s) first table

-- the tables of the set's first members: of none, of one, and so on, not beyond the whole set; there may be room for more
pub record AreTables (qp : Qp) (s : List ℕ) (count : ℕ) (tables : List Swept) : Type 0 where
  pub few : count ≤ length s + 1
  pub stored : count ≤ length tables
  pub each : (k : ℕ) → k < count → (d : Swept) → IsTableOfFirst qp s k (get_or tables k d)

abbrev pub AreSweeps : Qp → Sweeps → Type 0
AreSweeps qp sweeps = AreTables qp sweeps.set sweeps.count sweeps.tables.items

-- how the search for a law ends, by the tables
abbrev pub IsSweptEnd : Qp → List ℕ → SweptEnd → Type 0
IsSweptEnd qp s Dependent = (¬ IsIndependentSet qp s) × LawFits qp s
IsSweptEnd qp s Law = IsLawOfSet qp s (swept_law qp s)
