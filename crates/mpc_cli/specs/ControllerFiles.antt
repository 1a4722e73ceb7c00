-- The file of a plant's controller.
use Rattle.std.specs.Prelude.{◌≡◌, ℕ, List}
use Rattle.mpc_exact.specs.Rational.{ℚ}
use Rattle.mpc_plant.specs.declared.plants.Plant.{Plant}
use Rattle.mpc_plant.specs.Reply.{Reply, IsRight}
use Rattle.mpc_plant.specs.Trajectory.{IsInBox}
use Rattle.mpc_rows.specs.declared.programs.Qp.{Qp}
use Rattle.mpc_controller.specs.Parts.{Parts}
use Rattle.mpc_controller.specs.Replies.{RepliesAt}
use Rattle.mpc_grammar.specs.declared.versions.Version.TheVariants.{Three}
use Rattle.mpc_grammar.specs.FileGrammar.{Spells}
use Rattle.mpc_synthesis.specs.Controllers.{IsController}

-- The text of the plant's controller, in version 3: of its table of laws and the table's certified tree, which the independent checker accepts, and which
-- replies at every state of the box, on the grid or between its states, and rightly. There is one such text.
pub record IsFileOf (plant : Plant) (text : List ℕ) : Type 0 where
  pub qp : Qp
  pub parts : Parts
  pub controller : IsController plant qp parts
  pub written : Spells text Three parts
  pub only : (other_qp : Qp) (other : Parts) (other_text : List ℕ) → IsController plant other_qp other → Spells other_text Three other → other_text ≡ text
  pub replies : (t : List ℚ) → IsInBox plant t → (reply : Reply) × RepliesAt parts t reply
  pub right : (t : List ℚ) (reply : Reply) → IsInBox plant t → RepliesAt parts t reply → IsRight plant t reply
