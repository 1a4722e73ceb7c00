-- Why a plant is refused: the first pivot that isn't positive, or the first place of which a number is too wide.
use Rattle.std.specs.Prelude.{List}
use Rattle.mpc_plant.specs.declared.plants.Plant.{Plant}
use Rattle.mpc_rows.specs.declared.programs.Qp.{Qp}
use Rattle.mpc_rows.specs.declared.laws.Law.{Law}
use Rattle.mpc_rows.specs.declared.trees.Node.{Node}
use Rattle.mpc_rows.specs.declared.verdicts.Verdict.TheVariants.{Wide}
use Rattle.mpc_rows.specs.declared.places.Place.{Place}
use Rattle.mpc_rows.specs.Candidates.{IsTable}
use Rattle.mpc_claim.specs.Answers.{IsFirstBad}
use Rattle.mpc_condense.specs.Convex.{HasProgram, PivotsPass}
use Rattle.mpc_condense.specs.Refusals.{IsNotDefiniteAt, IsFirstWidePlace}
use Rattle.mpc_condense.specs.declared.convex.ProgramError.{ProgramError}
use Rattle.mpc_condense.specs.declared.convex.ProgramError.TheVariants.{NotDefinite, TooWide, NoMemory}
use Rattle.mpc_tree.specs.declared.errors.TreeError.{TreeError}
use Rattle.mpc_tree.specs.declared.errors.TreeError.TheVariants.{Wide as WideTree, NoMemory as NoTreeMemory}
use Rattle.mpc_tree.specs.Trees.{whole_box}
use Rattle.mpc_tree.specs.WideRuns.{IsFirstWide as IsFirstWideRun}
use Rattle.mpc_controller.specs.Parts.{Parts}
use Rattle.mpc_controller.specs.Bounds.{IsFirstBroken}
use Rattle.mpc_check.specs.Acceptance.{IsFound}
use Rattle.mpc_check.specs.Findings.{too_wide}
use Rattle.mpc_synthesis.specs.Programs.{HasVerdicts}
use Rattle.mpc_synthesis.specs.Controllers.{HasTree, IsSealed}

-- how far a plant is taken: to the verdicts on its candidates, or to its controller
pub data Extent : Type 0 where
  verdicts : Extent
  controller : Extent

abbrev pub BuildsController : Extent → Type 0
BuildsController verdicts = ⊥
BuildsController controller = Unit {0}

-- The first place of which a number doesn't fit, where all pivots before it are positive. Of the candidates it is that of the least set with
-- such a number, of the tree the first in preorder, of the checker's conditions the first in their order.
pub data FirstWide (plant : Plant) : Extent → Place → Type 0 where
  wide_program : (extent : Extent) (place : Place) → IsFirstWidePlace plant place → FirstWide plant extent place
  wide_set : (extent : Extent) (qp : Qp) (place : Place) → HasProgram plant qp → PivotsPass qp → IsFirstBad qp (Wide place) → FirstWide plant extent place
  wide_tree : (extent : Extent) (qp : Qp) (laws : List Law) (place : Place) → BuildsController extent → HasVerdicts plant qp → IsTable qp laws → IsFirstWideRun qp laws whole_box 1 place → FirstWide plant extent place
  wide_bound : (extent : Extent) (qp : Qp) (laws : List Law) (nodes : List Node) (place : Place) → BuildsController extent → HasTree plant qp laws nodes → IsFirstBroken plant laws nodes place → FirstWide plant extent place
  wide_check : (extent : Extent) (qp : Qp) (parts : Parts) (place : Place) → BuildsController extent → IsSealed plant qp parts → IsFound parts (too_wide place) → FirstWide plant extent place

-- why a plant is refused
abbrev pub ExplainsSynthesisError : Extent → Plant → ProgramError → Type 0
ExplainsSynthesisError extent plant (NotDefinite pivot) = IsNotDefiniteAt plant pivot
ExplainsSynthesisError extent plant (TooWide place) = FirstWide plant extent place
ExplainsSynthesisError extent plant NoMemory = Unit {0}

-- why the candidates of a program aren't all decided
abbrev pub ExplainsSetError : Qp → ProgramError → Type 0
ExplainsSetError qp (NotDefinite pivot) = ⊥
ExplainsSetError qp (TooWide place) = IsFirstBad qp (Wide place)
ExplainsSetError qp NoMemory = Unit {0}

-- why sealed parts aren't accepted: a number of a condition is too wide
abbrev pub ExplainsCheckError : Parts → ProgramError → Type 0
ExplainsCheckError parts (NotDefinite pivot) = ⊥
ExplainsCheckError parts (TooWide place) = IsFound parts (too_wide place)
ExplainsCheckError parts NoMemory = Unit {0}

-- the refusal of a plant whose tree isn't built
abbrev pub refusal_of : TreeError → ProgramError
refusal_of (WideTree place) = TooWide place
refusal_of NoTreeMemory = NoMemory
