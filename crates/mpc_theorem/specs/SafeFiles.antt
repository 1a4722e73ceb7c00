-- Controllers' files whose closed loop is followed: it is right forever, or it leaves the box or comes where there is no move.
use Rattle.std.specs.Prelude.{◌≡◌, ◌↔◌, ℕ, ◌-◌, ◌^◌, ◌<◌, List, length, pos}
use Rattle.mpc_exact.specs.Rational.{ℚ, int, ◌<ℚ◌}
use Rattle.mpc_plant.specs.Reply.{move}
use Rattle.mpc_rows.specs.declared.trees.Node.{Node}
use Rattle.mpc_rows.specs.LinearSystem.{point_at}
use Rattle.mpc_controller.specs.Parts.{Parts}
use Rattle.mpc_controller.specs.Walk.{EndsAt}
use Rattle.mpc_controller.specs.Replies.{RepliesAt}
use Rattle.mpc_grammar.specs.FileGrammar.{IsSpelled}
use Rattle.mpc_check.specs.Acceptance.{Accepts}
use Rattle.mpc_recur.specs.declared.answers.Next.{Next}
use Rattle.mpc_recur.specs.Successors.{next, IsSafe, IsAtTarget}
use Rattle.mpc_recur.specs.Findings.{reached, too_wide}
use Rattle.mpc_recur.specs.Targets.{IsFound, NothingWide}
use Rattle.mpc_files.specs.RightForever.{HasAdmissible, StaysRight}
use Rattle.mpc_files.specs.declared.answers.Safety.{Safety}
use Rattle.mpc_files.specs.declared.answers.Safety.TheVariants.{Safe}
use Rattle.mpc_files.specs.SafetyAnswers.{IsAnswerToFile}
use Rattle.mpc_files.specs.SafetyOutcomes.{SafetyOutcome, bad_file, finds, steps, safe, IsSafetyOutcome, outcome_of}

-- ---- what is written of
-- From every point of the box with an admissible sequence the closed loop of the controller in the file goes on forever: after each number of
-- steps the state is one of the box, and the reply is the first move of the cheapest admissible sequence there.
pub record SpellsRightForever (bytes : List ℕ) : Type 0 where
  pub parts : Parts
  pub spelled : IsSpelled bytes parts
  pub forever : StaysRight parts

-- ---- what is due
-- the file's controller is accepted, from each point with a move it comes to such a point, and no number of the targets' tests is too wide
pub record IsSafeFile (bytes : List ℕ) : Type 0 where
  pub parts : Parts
  pub spelled : IsSpelled bytes parts
  pub accepts : Accepts parts
  pub goes_on : IsSafe parts
  pub fits : NothingWide parts

-- From the point t of the box some sequence is admissible. The walk ends at this leaf, and one step by the move that is replied leads to the
-- target: below or above a coordinate of the box, or to a leaf without a move.
pub record LeavesFrom (parts : Parts) (one : Next) (t : List ℚ) : Type 0 where
  pub begins : HasAdmissible parts t
  pub leaf : Node
  pub ends : EndsAt parts.tree t (one.leaf - 1) leaf
  pub u : List ℚ
  pub replies : RepliesAt parts t (move u)
  pub arrives : IsAtTarget parts (next parts.plant t u) one.target

-- so it is at the pair point at every small enough positive d
pub record LeavesAt (parts : Parts) (one : Next) (pairs : List (ℚ × ℚ)) : Type 0 where
  pub reach : ℚ
  pub some : int (pos 0) <ℚ reach
  pub leaves : (d : ℚ) → int (pos 0) <ℚ d → d <ℚ reach → LeavesFrom parts one (point_at pairs d)

-- The file's controller is accepted, and its closed loop leaves, so it isn't safe. Of the targets to which it leads this is the first in their
-- order, and the point is the one with which the target's test ends.
pub record IsUnsafeFile (bytes : List ℕ) (one : Next) (pairs : List (ℚ × ℚ)) : Type 0 where
  pub parts : Parts
  pub spelled : IsSpelled bytes parts
  pub accepts : Accepts parts
  pub leaves : LeavesAt parts one pairs
  pub not_safe : ¬ IsSafe parts
  pub first : IsFound parts (reached one pairs)

-- what comes of the bytes: a line that fails, what the checker finds, where the loop leaves, a target that is too wide, or that it is safe
abbrev pub IsSafetyDue : List ℕ → SafetyOutcome → Type 0
IsSafetyDue bytes (bad_file kind number) = IsSafetyOutcome bytes (bad_file kind number)
IsSafetyDue bytes (finds finding) = IsSafetyOutcome bytes (finds finding)
IsSafetyDue bytes (steps (reached one pairs)) = IsUnsafeFile bytes one pairs
IsSafetyDue bytes (steps (too_wide one)) = IsSafetyOutcome bytes (steps (too_wide one))
IsSafetyDue bytes safe = IsSafeFile bytes

-- ---- laws
-- of bytes of fewer than 2^64, as slices are, an outcome is due exactly where it is found by the test of the targets in their order
abbrev pub DueIsFound : Type 0
DueIsFound = (bytes : List ℕ) (outcome : SafetyOutcome) → length bytes < 2 ^ 64 → IsSafetyDue bytes outcome ↔ IsSafetyOutcome bytes outcome

-- at most one is due
abbrev pub OneSafetyDue : Type 0
OneSafetyDue = (bytes : List ℕ) (one other : SafetyOutcome) → length bytes < 2 ^ 64 → IsSafetyDue bytes one → IsSafetyDue bytes other → one ≡ other

abbrev pub AnswerIsDue : Type 0
AnswerIsDue = (bytes : List ℕ) (answer : Safety) → IsAnswerToFile bytes answer → IsSafetyDue bytes (outcome_of answer)

-- what is answered as safe is right forever
abbrev pub SafeIsForever : Type 0
SafeIsForever = (bytes : List ℕ) → IsAnswerToFile bytes Safe → SpellsRightForever bytes
