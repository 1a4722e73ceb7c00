-- What is found of targets in an order: of the first whose system isn't shown to have no point.
use Rattle.std.specs.Prelude.{◌≡◌, ℕ, ◌<◌, ◌⊎◌, List}
use Rattle.mpc_exact.specs.Rational.{ℚ}
use Rattle.mpc_rows.specs.LinearSystem.{LinearSystem, IsPairPoint}
use Rattle.mpc_rows.specs.RunWidth.{RunFits}
use Rattle.mpc_simplex.specs.Answer.{HasPoint, EndsWithPoint}
use Rattle.mpc_recur.specs.declared.answers.Next.{Next}
use Rattle.mpc_recur.specs.declared.answers.Stop.{Stop}
use Rattle.mpc_recur.specs.declared.answers.Stop.TheVariants.{Reached, Wide, NoMemory}

-- that the target's system has this point, or that one of its numbers is too wide
pub data Finding : Type 0 where
  reached : Next → List (ℚ × ℚ) → Finding
  too_wide : Next → Finding

-- ---- one target: the numbers that form its rows, and the system of its rows
-- no number of its rows is too wide, nor of its run
pub record TargetFits (forming : Type 0) (s : LinearSystem) : Type 0 where
  pub rows_fit : forming
  pub run_fits : RunFits s

-- none is too wide, and no point is there
pub record IsRuledOut (forming : Type 0) (s : LinearSystem) : Type 0 where
  pub fits : TargetFits forming s
  pub no_point : ¬ HasPoint s

-- none is too wide, and the run ends with this point
pub record IsReached (forming : Type 0) (s : LinearSystem) (pairs : List (ℚ × ℚ)) : Type 0 where
  pub fits : TargetFits forming s
  pub point : IsPairPoint s pairs
  pub ends : EndsWithPoint s pairs

abbrev pub TargetFinds : Type 0 → LinearSystem → Next → Finding → Type 0
TargetFinds forming s one (reached found pairs) = (found ≡ one) × IsReached forming s pairs
TargetFinds forming s one (too_wide found) = (found ≡ one) × ¬ TargetFits forming s

-- ---- conditions one after another
abbrev pub Each : (ℕ → Type 0) → ℕ → Type 0
Each met count = (k : ℕ) → k < count → met k

-- of so many parts, counted from 0, the first that isn't met gives the finding
pub record IsFirstOf (met : ℕ → Type 0) (finds : ℕ → Finding → Type 0) (count : ℕ) (finding : Finding) : Type 0 where
  pub place : ℕ
  pub within : place < count
  pub before : Each met place
  pub here : finds place finding

-- the first part gives the finding, or it is met and the second does
abbrev pub IsFirstOfTwo : Type 0 → (Finding → Type 0) → (Finding → Type 0) → Finding → Type 0
IsFirstOfTwo met finds later finding = finds finding ⊎ (met × later finding)

-- ---- why a search stops: at what is found, unless there is no memory
abbrev pub IsStop : (Finding → Type 0) → Stop → Type 0
IsStop finds (Reached one pairs) = finds (reached one pairs)
IsStop finds (Wide one) = finds (too_wide one)
IsStop finds NoMemory = Unit {0}
