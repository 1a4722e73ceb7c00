-- A run in whole numbers: the numbers of one of its positions, of which all positions before had none greater than a kept size.
use Rattle.std.specs.Prelude.{◌≡◌, ℕ, ◌≤◌, List, ℤ}
use Rattle.mpc_rows.specs.LinearSystem.{LinearSystem}
use Rattle.mpc_rows.specs.Run.{Turn, has_point, is_refuted, turn, position, last_position, steps}
use Rattle.mpc_rows.specs.RunWidth.{RunFits}
use Rattle.mpc_runs.specs.declared.variables.Seat.{Seat}
use Rattle.mpc_whole.specs.declared.whole.Ending.{Ending}
use Rattle.mpc_whole.specs.declared.whole.Ending.TheVariants.{Point, Refuted}
use Rattle.mpc_whole.specs.Whole.{IsForm, AreValues, Stands}
use Rattle.mpc_whole.specs.SharedSizes.{AreSmallBefore}
use Rattle.mpc_runs.specs.Leaving.{StayBefore}

abbrev pub turn_of : Ending → Turn
turn_of Point = has_point
turn_of (Refuted l) = is_refuted l

-- the run stands at this position, where the unknowns have these values, and who leaves there is a side that isn't before this one
pub record IsUnderway (s : LinearSystem) (n : ℕ) (seats : List Seat) (k : List ℕ) (den : ℕ) (v c_1 c_2 : List ℤ) (most most_den first : ℕ) : Type 0 where
  pub stands : Stands s n seats k den v
  pub values : AreValues s (position s stands.at) den c_1 c_2
  pub before : AreSmallBefore s k stands.at most most_den
  pub side : s.width ≤ first
  pub stay : StayBefore s (position s stands.at) first

-- the run stands at its last position, where the unknowns have these values, ends so, and all that it forms fits
pub record HasEnded (s : LinearSystem) (n : ℕ) (seats : List Seat) (k : List ℕ) (den : ℕ) (v c_1 c_2 : List ℤ) (most most_den : ℕ) (end : Ending) : Type 0 where
  pub form : IsForm s n seats k den v (last_position s)
  pub values : AreValues s (last_position s) den c_1 c_2
  pub before : AreSmallBefore s k (steps s) most most_den
  pub turns : turn s (last_position s) ≡ turn_of end
  pub fits : RunFits s
