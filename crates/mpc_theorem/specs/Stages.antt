-- Where a plant is too wide behind its program, stage by stage: the active sets, the search tree, the bounds and the checker's conditions.
use Rattle.std.specs.Prelude.{ℕ, ◌⊎◌, ◌↔◌, List, [], ◌∷◌, All}
use Rattle.mpc_space.specs.Matrix.{height}
use Rattle.mpc_sets.specs.SetOrder.{IsBefore}
use Rattle.mpc_plant.specs.declared.plants.Plant.{Plant}
use Rattle.mpc_rows.specs.declared.programs.Qp.{Qp}
use Rattle.mpc_rows.specs.declared.laws.Law.{Law}
use Rattle.mpc_rows.specs.declared.trees.Node.{Node}
use Rattle.mpc_rows.specs.declared.places.Place.{Place}
use Rattle.mpc_rows.specs.Candidates.{IsCandidate, IsTable}
use Rattle.mpc_tree.specs.Trees.{whole_box}
use Rattle.mpc_controller.specs.Parts.{Parts}
use Rattle.mpc_check.specs.Findings.{too_wide}
use Rattle.mpc_check.specs.Acceptance.{FindsBehind}
use Rattle.mpc_synthesis.specs.Controllers.{HasTree, IsSealed}
use Rattle.mpc_condense.specs.Refusals.{IsNotDefiniteAt}
use Rattle.mpc_synthesis.specs.Refusals.{Extent, verdicts, controller, FirstWide}
use Rattle.mpc_theorem.specs.Firsts.{IsFirstOf, numbered}
use Rattle.mpc_theorem.specs.Programs.{HasProgram, PivotPasses, IsNotDefinite, IsWideProgram}
use Rattle.mpc_theorem.specs.DecisionRuns.{SetFits, IsWideRun}
use Rattle.mpc_theorem.specs.SearchRuns.{SearchNode, AreInPreorder, NodeFits, IsWideNode}
use Rattle.mpc_theorem.specs.Bounds.{BoundFits, bound_places}

-- the candidates: the least one whose decision meets a number that is too wide
pub record IsWideSet (plant : Plant) (place : Place) : Type 0 where
  pub qp : Qp
  pub program : HasProgram plant qp
  pub pivots : All (PivotPasses qp) (numbered (λ i. i) 1 (height qp.h))
  pub set : List ℕ
  pub candidate : IsCandidate qp set
  pub before : (s : List ℕ) → IsCandidate qp s → IsBefore s set → SetFits qp s
  pub first : IsWideRun qp set place

-- the search tree of the table: of the nodes in preorder the first whose runs don't all fit, and of its runs the first that doesn't
pub record IsWideTree (plant : Plant) (place : Place) : Type 0 where
  pub qp : Qp
  pub laws : List Law
  pub program : HasProgram plant qp
  pub pivots : All (PivotPasses qp) (numbered (λ i. i) 1 (height qp.h))
  pub decided : (s : List ℕ) → IsCandidate qp s → SetFits qp s
  pub table : IsTable qp laws
  pub nodes : List SearchNode
  pub preorder : AreInPreorder 1 (whole_box ∷ []) nodes
  pub node : SearchNode
  pub first : IsFirstOf (NodeFits qp laws) nodes node
  pub wide : IsWideNode qp laws node.number node.cell place

-- the bounds on the numbers of a reply: law by law, and then node by node
pub record IsWideBound (plant : Plant) (place : Place) : Type 0 where
  pub qp : Qp
  pub laws : List Law
  pub nodes : List Node
  pub has_tree : HasTree plant qp laws nodes
  pub first : IsFirstOf (BoundFits plant laws nodes) (bound_places plant laws nodes) place

-- the conditions of the checker: the first that isn't met
pub record IsWideCondition (plant : Plant) (place : Place) : Type 0 where
  pub qp : Qp
  pub parts : Parts
  pub is_sealed : IsSealed plant qp parts
  pub found : FindsBehind parts (too_wide place)

-- as far as the plant is taken
abbrev pub IsWideStage : Extent → Plant → Place → Type 0
IsWideStage verdicts plant place = IsWideSet plant place
IsWideStage controller plant place = IsWideSet plant place ⊎ (IsWideTree plant place ⊎ (IsWideBound plant place ⊎ IsWideCondition plant place))

-- ---- laws
abbrev pub PlantNotDefinite : Type 0
PlantNotDefinite = (plant : Plant) (j : ℕ) → IsNotDefiniteAt plant j ↔ IsNotDefinite plant j

-- its program is too wide, or a stage behind it
abbrev pub PlantTooWide : Type 0
PlantTooWide = (extent : Extent) (plant : Plant) (place : Place) → FirstWide plant extent place ↔ (IsWideProgram plant place ⊎ IsWideStage extent plant place)
