-- The lists of a run.
use Rattle.std.specs.Prelude.{◌≡◌, ℕ, ◌*◌, List, length, get_or, ℤ}
use Rattle.mpc_rows.specs.LinearSystem.{LinearSystem, height}
use Rattle.mpc_rows.specs.Run.{count}
use Rattle.mpc_runs.specs.declared.variables.Seat.{Seat}
use Rattle.mpc_whole.specs.declared.lists.RunLists.{RunLists}
use Rattle.mpc_whole.specs.declared.lists.WideLists.{WideLists}
use Rattle.mpc_runs.specs.Table.{IsSeated, AreNonbasic}
use Rattle.mpc_scaled.specs.Scaled.{IsSmall}

-- what they have, whatever the width of the numbers
pub record Listed : Type 0 where
  pub seats : List Seat
  pub nonbasic : List ℕ
  pub numbers : List ℤ
  pub firsts : List ℤ
  pub seconds : List ℤ

abbrev pub of_short : RunLists → Listed
of_short l = record { seats = l.seats.items; nonbasic = l.nonbasic.items; numbers = l.numbers.items; firsts = l.firsts.items; seconds = l.seconds.items }

abbrev pub of_wide : WideLists → Listed
of_wide l = record { seats = l.seats.items; nonbasic = l.nonbasic.items; numbers = l.numbers.items; firsts = l.firsts.items; seconds = l.seconds.items }

-- what is kept for each unknown of the positions before
abbrev pub weights_of : WideLists → ℕ → ℕ
weights_of l j = get_or l.weights.items j 0

-- lists of a run of the system, whose numbers of the position are at most this in size
pub record AreListsOf (s : LinearSystem) (most : ℕ) (l : Listed) : Type 0 where
  pub seated : IsSeated (height s) s.width (count s) l.seats
  pub columns : AreNonbasic s.width l.seats l.nonbasic
  pub square : length l.numbers ≡ s.width * s.width
  pub own : IsSmall most l.numbers
  pub first_size : length l.firsts ≡ s.width
  pub second_size : length l.seconds ≡ s.width
