-- The replies of a plant's laws are right.
use Rattle.std.specs.Prelude.{◌≡◌, List, take}
use Rattle.mpc_exact.specs.Rational.{ℚ}
use Rattle.mpc_space.specs.Definite.{IsDefinite}
use Rattle.mpc_plant.specs.declared.plants.Plant.{Plant}
use Rattle.mpc_plant.specs.Reply.{IsRight, move, infeasible}
use Rattle.mpc_rows.specs.declared.programs.Qp.{Qp}
use Rattle.mpc_rows.specs.declared.laws.Law.{Law}
use Rattle.mpc_rows.specs.ActiveSets.{IsFeasible, IsInBox}
use Rattle.mpc_rows.specs.Laws.{IsLaw, IsInRegion, moves_at}
use Rattle.mpc_condense.specs.Condensed.{IsCondensed}

-- in its region, a law gives the first move of the best sequence
abbrev pub LawIsRight : Type 0
LawIsRight =
    (plant : Plant) (qp : Qp) (law : Law) (t : List ℚ) → IsCondensed qp plant → IsDefinite qp.h.rows → IsLaw qp law → IsInRegion qp law t
    → IsRight plant t (move (take plant.p (moves_at law t)))

-- where nothing satisfies the program's rows at a point of the box, no sequence is admissible
abbrev pub InfeasibleIsRight : Type 0
InfeasibleIsRight =
    (plant : Plant) (qp : Qp) (t : List ℚ) → IsCondensed qp plant → IsInBox qp.counts t → ((z : List ℚ) → ¬ IsFeasible qp t z)
    → IsRight plant t infeasible

-- a plant has at most one program
abbrev pub OneProgram : Type 0
OneProgram = (plant : Plant) (one two : Qp) → IsCondensed one plant → IsCondensed two plant → one ≡ two
