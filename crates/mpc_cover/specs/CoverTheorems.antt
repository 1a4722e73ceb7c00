-- The regions of a program's laws cover its feasible points, and at most one verdict on a set is right.
use Rattle.std.specs.Prelude.{◌≡◌, ℕ, List, Contains}
use Rattle.mpc_exact.specs.Rational.{ℚ}
use Rattle.mpc_space.specs.Definite.{IsDefinite}
use Rattle.mpc_rows.specs.declared.programs.Qp.{Qp}
use Rattle.mpc_rows.specs.declared.laws.Law.{Law}
use Rattle.mpc_rows.specs.declared.verdicts.Verdict.{Verdict}
use Rattle.mpc_rows.specs.ActiveSets.{IsFeasible}
use Rattle.mpc_rows.specs.Laws.{IsInRegion}
use Rattle.mpc_rows.specs.Candidates.{IsLawOfTable, IsTable}
use Rattle.mpc_rows.specs.Verdicts.{IsRight}

-- each point of the box with an admissible choice lies in the region of a candidate's law
abbrev pub RegionsCover : Type 0
RegionsCover = (qp : Qp) → IsDefinite qp.h.rows → (t z : List ℚ) → IsFeasible qp t z → (law : Law) × IsLawOfTable qp law × IsInRegion qp law t

-- and so in that of a law of every table
abbrev pub TablesCover : Type 0
TablesCover = (qp : Qp) (laws : List Law) → IsDefinite qp.h.rows → IsTable qp laws → (t z : List ℚ) → IsFeasible qp t z → (law : Law) × Contains laws law × IsInRegion qp law t

-- at most one verdict on a set is right
abbrev pub OneRightVerdict : Type 0
OneRightVerdict = (qp : Qp) → IsDefinite qp.h.rows → (s : List ℕ) (v w : Verdict) → IsRight qp s v → IsRight qp s w → v ≡ w
