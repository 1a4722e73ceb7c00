-- What holds of the targets of every controller.
use Rattle.std.specs.Prelude.{◌≡◌, ◌↔◌, List}
use Rattle.mpc_exact.specs.Rational.{ℚ}
use Rattle.mpc_controller.specs.Parts.{Parts}
use Rattle.mpc_controller.specs.Bounds.{IsController}
use Rattle.mpc_recur.specs.declared.answers.Next.{Next}
use Rattle.mpc_recur.specs.declared.answers.Recur.{Recur}
use Rattle.mpc_recur.specs.declared.answers.Recur.TheVariants.{Safe}
use Rattle.mpc_recur.specs.declared.answers.RecurError.{RecurError}
use Rattle.mpc_recur.specs.declared.answers.RecurError.TheVariants.{NoMemory}
use Rattle.mpc_recur.specs.Successors.{IsSafe, LeadsAway}
use Rattle.mpc_recur.specs.Findings.{reached}
use Rattle.mpc_recur.specs.Targets.{AllRuledOut, IsFound, NothingWide}
use Rattle.mpc_recur.specs.Outcomes.{Outcome, IsAnswer, IsCause, IsOutcome}

-- at most one outcome is due
abbrev pub OneOutcome : Type 0
OneOutcome = (parts : Parts) (one other : Outcome) → IsOutcome parts one → IsOutcome parts other → one ≡ other

-- each target is ruled out exactly where the controller is safe and nothing is too wide
abbrev pub RuledOutWhereSafe : Type 0
RuledOutWhereSafe = (parts : Parts) → IsController parts.plant parts.laws parts.tree → AllRuledOut parts ↔ (IsSafe parts × NothingWide parts)

-- where a target is found to be reached, the controller leads there from the pair point
abbrev pub FoundLeadsAway : Type 0
FoundLeadsAway = (parts : Parts) (one : Next) (pairs : List (ℚ × ℚ)) → IsController parts.plant parts.laws parts.tree → IsFound parts (reached one pairs) → LeadsAway parts one pairs

-- a controller that leads to a target isn't safe
abbrev pub LeadsAwayNotSafe : Type 0
LeadsAwayNotSafe = (parts : Parts) (one : Next) (pairs : List (ℚ × ℚ)) → IsController parts.plant parts.laws parts.tree → LeadsAway parts one pairs → ¬ IsSafe parts

-- Where the controller is safe and nothing is too wide, an answer is that it is safe, and nothing but want of memory hinders it. So that is
-- answered exactly there, since an answer that it is safe says as much.
abbrev pub SafeIsAnswered : Type 0
SafeIsAnswered = (parts : Parts) → IsController parts.plant parts.laws parts.tree → IsSafe parts → NothingWide parts → (answer : Recur) → IsAnswer parts answer → answer ≡ Safe

abbrev pub SafeIsDecided : Type 0
SafeIsDecided = (parts : Parts) → IsController parts.plant parts.laws parts.tree → IsSafe parts → NothingWide parts → (error : RecurError) → IsCause parts error → error ≡ NoMemory
