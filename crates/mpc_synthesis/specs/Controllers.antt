-- The controller of a plant.
use Rattle.std.specs.Prelude.{◌≡◌, List}
use Rattle.mpc_exact.specs.Rational.{ℚ}
use Rattle.mpc_plant.specs.declared.plants.Plant.{Plant}
use Rattle.mpc_plant.specs.Reply.{Reply, IsRight}
use Rattle.mpc_plant.specs.Trajectory.{IsInBox}
use Rattle.mpc_rows.specs.declared.programs.Qp.{Qp}
use Rattle.mpc_rows.specs.declared.laws.Law.{Law}
use Rattle.mpc_rows.specs.declared.trees.Node.{Node}
use Rattle.mpc_rows.specs.Candidates.{IsTable}
use Rattle.mpc_tree.specs.Trees.{whole_box}
use Rattle.mpc_tree.specs.Certified.{IsCertified}
use Rattle.mpc_controller.specs.Parts.{Parts}
use Rattle.mpc_controller.specs.Bounds.{IsController as IsControllerOf}
use Rattle.mpc_controller.specs.Replies.{RepliesAt}
use Rattle.mpc_check.specs.Acceptance.{Accepts}
use Rattle.mpc_synthesis.specs.Programs.{HasVerdicts}

-- the table of the program's laws, and its certified search tree
pub record HasTree (plant : Plant) (qp : Qp) (laws : List Law) (nodes : List Node) : Type 0 where
  pub verdicts : HasVerdicts plant qp
  pub table : IsTable qp laws
  pub certified : IsCertified qp laws whole_box nodes

-- the plant, its table and the table's tree, of a controller's shapes, and no reply with a number that is too wide
pub record IsSealed (plant : Plant) (qp : Qp) (parts : Parts) : Type 0 where
  pub plant_is : parts.plant ≡ plant
  pub has_tree : HasTree plant qp parts.laws parts.tree
  pub fits : IsControllerOf plant parts.laws parts.tree

-- the controller of the plant: its sealed parts, which the independent checker accepts
pub record IsController (plant : Plant) (qp : Qp) (parts : Parts) : Type 0 where
  pub is_sealed : IsSealed plant qp parts
  pub accepted : Accepts parts

-- at every state of the box, on the grid or between its states, what the controller's tree replies is right
abbrev pub ControllerIsRight : Type 0
ControllerIsRight = (plant : Plant) (qp : Qp) (parts : Parts) (t : List ℚ) (reply : Reply) → IsController plant qp parts → IsInBox plant t → RepliesAt parts t reply → IsRight plant t reply

-- and it replies there
abbrev pub ControllerReplies : Type 0
ControllerReplies = (plant : Plant) (qp : Qp) (parts : Parts) (t : List ℚ) → IsController plant qp parts → IsInBox plant t → (reply : Reply) × RepliesAt parts t reply

-- a plant has one controller
abbrev pub OneController : Type 0
OneController = (plant : Plant) (one_qp other_qp : Qp) (one other : Parts) → IsController plant one_qp one → IsController plant other_qp other → one ≡ other
