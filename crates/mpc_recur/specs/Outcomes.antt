-- What a test of recursive feasibility answers.
use Rattle.std.specs.Prelude.{List}
use Rattle.mpc_exact.specs.Rational.{ℚ}
use Rattle.mpc_controller.specs.Parts.{Parts}
use Rattle.mpc_recur.specs.declared.answers.Next.{Next}
use Rattle.mpc_recur.specs.declared.answers.Recur.{Recur}
use Rattle.mpc_recur.specs.declared.answers.Recur.TheVariants.{Safe, Unsafe}
use Rattle.mpc_recur.specs.declared.answers.RecurError.{RecurError}
use Rattle.mpc_recur.specs.declared.answers.RecurError.TheVariants.{Wide, NoMemory}
use Rattle.mpc_recur.specs.Successors.{IsSafe, LeadsAway}
use Rattle.mpc_recur.specs.Findings.{Finding, reached, too_wide}
use Rattle.mpc_recur.specs.Targets.{AllRuledOut, IsFound, NothingWide}

-- the controller is safe, each target is ruled out, and nothing on the way is too wide
pub record IsSafeOutcome (parts : Parts) : Type 0 where
  pub safe : IsSafe parts
  pub ruled_out : AllRuledOut parts
  pub fits : NothingWide parts

-- The target is the first that isn't ruled out, and nothing of it is too wide, nor of those before it. From the pair point the controller leads
-- there in one step, so it isn't safe.
pub record IsUnsafeOutcome (parts : Parts) (one : Next) (pairs : List (ℚ × ℚ)) : Type 0 where
  pub first : IsFound parts (reached one pairs)
  pub leads : LeadsAway parts one pairs
  pub not_safe : ¬ IsSafe parts

abbrev pub IsAnswer : Parts → Recur → Type 0
IsAnswer parts Safe = IsSafeOutcome parts
IsAnswer parts (Unsafe one pairs) = IsUnsafeOutcome parts one pairs

-- the target is the first that isn't ruled out, and one of its numbers is too wide; nothing is said of want of memory
abbrev pub IsCause : Parts → RecurError → Type 0
IsCause parts (Wide one) = IsFound parts (too_wide one)
IsCause parts NoMemory = Unit {0}

-- what is due: that nothing is found, or what is
pub data Outcome : Type 0 where
  is_safe : Outcome
  finds : Finding → Outcome

abbrev pub IsOutcome : Parts → Outcome → Type 0
IsOutcome parts is_safe = AllRuledOut parts
IsOutcome parts (finds finding) = IsFound parts finding
