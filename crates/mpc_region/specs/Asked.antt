-- What is known of a set at the steps towards its verdict.
use Rattle.std.specs.Prelude.{◌≡◌, ℕ, ◌<◌, ◌≤◌, List, length}
use Rattle.mpc_space.specs.Definite.{IsDefinite}
use Rattle.mpc_space.specs.Matrix.{height}
use Rattle.mpc_sets.specs.RowSet.{IsSetOfRows}
use Rattle.mpc_rows.specs.declared.programs.Qp.{Qp}
use Rattle.mpc_rows.specs.Candidates.{CanGrow}
use Rattle.mpc_rows.specs.Laws.{IsLaw}
use Rattle.mpc_rows.specs.Verdicts.{ReachFits}
use Rattle.mpc_region.specs.Sweeps.{swept_law}
use Rattle.mpc_region.specs.SweptSets.{AreSweeps}
use Rattle.mpc_region.specs.declared.sweeps.Sweeps.{Sweeps}

-- the program is strictly convex, and the set has rows of it, not more than there are unknowns
pub record IsAsked (qp : Qp) (s : List ℕ) : Type 0 where
  pub definite : IsDefinite qp.h.rows
  pub set_of_rows : IsSetOfRows (height qp.g) s
  pub few : length s ≤ height qp.h

-- the tables are those of the set's beginnings, and all of them are there but that of the whole set
pub record AreTablesFor (qp : Qp) (s : List ℕ) (kept : Sweeps) : Type 0 where
  pub sweeps : AreSweeps qp kept
  pub set : kept.set ≡ s
  pub some : 0 < kept.count
  pub served : length s ≤ kept.count

-- the set has the law that its table shows, and can grow, and the run for its states fits: only its region is open
pub record IsReached (qp : Qp) (s : List ℕ) : Type 0 where
  pub law : IsLaw qp (swept_law qp s)
  pub grows : CanGrow qp s
  pub fits : ReachFits qp s
