-- How many first rows of a system suffice for that with further rows behind to have no point: what `meeting` answers.
use Rattle.std.specs.Prelude.{ℕ, ◌≤◌, List, take, ⊤}
use Rattle.mpc_rows.specs.declared.systems.Row.{Row}
use Rattle.mpc_rows.specs.LinearSystem.{LinearSystem, height}
use Rattle.mpc_beginnings.specs.Beginnings.{lengthened}
use Rattle.mpc_beginnings.specs.declared.kept.Meeting.{Meeting}
use Rattle.mpc_beginnings.specs.declared.kept.Meeting.TheVariants.{Point, Missed}
use Rattle.mpc_simplex.specs.Answer.{HasPoint}

-- what holds where there is a point, or of the number of rows where there is none
abbrev pub IfMet : Meeting → Type 0 → Type 0
IfMet Point P = P
IfMet (Missed k) P = ⊤

abbrev pub IfMissed : Meeting → (ℕ → Type 0) → Type 0
IfMissed Point P = ⊤
IfMissed (Missed k) P = P k

-- the first k rows of a system
abbrev pub shortened : ℕ → LinearSystem → LinearSystem
shortened k s = record { width = s.width; rows = take k s.rows }

-- the further rows meet in no point with the first k rows of the system
pub record MissesFrom (s : LinearSystem) (k : ℕ) (more : List Row) : Type 0 where
  pub within : k ≤ height s
  pub no_point : ¬ HasPoint (lengthened (shortened k s) more)
