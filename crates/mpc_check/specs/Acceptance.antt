-- When a controller is accepted, and what is found of one that isn't: at the first condition that isn't met, in the order of condensing, the
-- pivots, the laws, and the leaves in preorder.
use Rattle.std.specs.Prelude.{◌≡◌, ◌⊎◌, List}
use Rattle.mpc_exact.specs.Rational.{ℚ}
use Rattle.mpc_plant.specs.declared.plants.Plant.{Plant}
use Rattle.mpc_plant.specs.Trajectory.{IsInBox}
use Rattle.mpc_plant.specs.Reply.{Reply, IsRight}
use Rattle.mpc_rows.specs.declared.programs.Qp.{Qp}
use Rattle.mpc_condense.specs.Convex.{IsConvexProgram}
use Rattle.mpc_condense.specs.Refusals.{IsNotDefiniteAt, IsFirstWidePlace}
use Rattle.mpc_condense.specs.declared.convex.ProgramError.{ProgramError}
use Rattle.mpc_condense.specs.declared.convex.ProgramError.TheVariants.{TooWide, NotDefinite, NoMemory}
use Rattle.mpc_controller.specs.Parts.{Parts}
use Rattle.mpc_controller.specs.Bounds.{IsController}
use Rattle.mpc_controller.specs.Replies.{RepliesAt}
use Rattle.mpc_check.specs.declared.answers.Answer.{Answer}
use Rattle.mpc_check.specs.declared.answers.Answer.TheVariants.{Accepted, Refused}
use Rattle.mpc_check.specs.Findings.{Finding, refused, too_wide, not_definite, IsFirstOfTwo}
use Rattle.mpc_check.specs.LawConditions.{LawsMet, LawsFind}
use Rattle.mpc_check.specs.LeafConditions.{TreeMet, TreeFinds}

-- ---- the program of the plant
abbrev pub ProgramFinds : Plant → Finding → Type 0
ProgramFinds plant (refused spot) = ⊥
ProgramFinds plant (too_wide place) = IsFirstWidePlace plant place
ProgramFinds plant (not_definite step) = IsNotDefiniteAt plant step

-- ---- the controller
-- the laws and the leaves
pub record BehindMet (qp : Qp) (parts : Parts) : Type 0 where
  pub laws : LawsMet qp parts.laws
  pub leaves : TreeMet qp parts.laws parts.tree

abbrev pub BehindFinds : Qp → Parts → Finding → Type 0
BehindFinds qp parts = IsFirstOfTwo (LawsMet qp parts.laws) (LawsFind qp parts.laws) (TreeFinds qp parts.laws parts.tree)

-- The cost is positive definite; the laws meet the conditions of Karush, Kuhn and Tucker; the certificates at the leaves refute what they
-- claim; and no number on the way is too wide.
pub record Accepts (parts : Parts) : Type 0 where
  pub qp : Qp
  pub program : IsConvexProgram parts.plant qp
  pub behind : BehindMet qp parts

-- the first condition behind the program that isn't met gives the finding
pub record FindsBehind (parts : Parts) (finding : Finding) : Type 0 where
  pub qp : Qp
  pub program : IsConvexProgram parts.plant qp
  pub first : BehindFinds qp parts finding

abbrev pub IsFound : Parts → Finding → Type 0
IsFound parts finding = ProgramFinds parts.plant finding ⊎ FindsBehind parts finding

-- ---- answers
abbrev pub IsAnswer : Parts → Answer → Type 0
IsAnswer parts Accepted = Accepts parts
IsAnswer parts (Refused spot) = IsFound parts (refused spot)

abbrev pub IsCause : Parts → ProgramError → Type 0
IsCause parts (TooWide place) = IsFound parts (too_wide place)
IsCause parts (NotDefinite step) = IsFound parts (not_definite step)
IsCause parts NoMemory = Unit {0}

-- ---- what acceptance means
-- at every point of the box, whole or not, each reply of an accepted controller is right
abbrev pub AcceptedIsRight : Type 0
AcceptedIsRight =
    (parts : Parts) (t : List ℚ) (reply : Reply) → IsController parts.plant parts.laws parts.tree → Accepts parts → IsInBox parts.plant t → RepliesAt parts t reply → IsRight parts.plant t reply

-- an accepted controller has no finding, and at most one thing is found of any
abbrev pub NothingFound : Type 0
NothingFound = (parts : Parts) (finding : Finding) → Accepts parts → ¬ IsFound parts finding

abbrev pub OneFinding : Type 0
OneFinding = (parts : Parts) (one two : Finding) → IsFound parts one → IsFound parts two → one ≡ two

-- and nothing of a program whose numbers fit and whose pivots are positive
abbrev pub NoProgramFinding : Type 0
NoProgramFinding = (plant : Plant) (qp : Qp) (finding : Finding) → IsConvexProgram plant qp → ¬ ProgramFinds plant finding
