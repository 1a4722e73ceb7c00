-- The lists of a run: at its opening, copied, and where further rows come behind.
use Rattle.std.specs.Prelude.{◌≡◌, ℕ, ◌+◌, ◌-◌, ◌*◌, ◌<◌, ◌^◌, cond, false, length, pos}
use Rattle.mpc_rows.specs.LinearSystem.{LinearSystem}
use Rattle.mpc_rows.specs.Run.{count}
use Rattle.mpc_runs.specs.Table.{variable_at, IsSeated, IsOpeningSeats}
use Rattle.mpc_whole.specs.Whole.{IsUnit}
use Rattle.mpc_scaled.specs.Scaled.{whole_at, IsSmall}
use Rattle.mpc_whole.specs.Lists.{Listed, of_short, of_wide, weights_of}
use Rattle.mpc_beginnings.specs.declared.lists.KeptLists.{KeptLists}
use Rattle.mpc_beginnings.specs.LongerSeats.{AreLongerSeats}

-- what the lists of a kept run have
abbrev pub lists_of : KeptLists → Listed
lists_of l = cond l.is_wide (of_wide l.wide) (of_short l.short)

-- what an unknown's numbers weigh at the positions before: where they have 64 bits, the product that is kept serves for each
abbrev pub weight_of : KeptLists → ℕ → ℕ → ℕ
weight_of l product j = cond l.is_wide (weights_of l.wide j) product

-- where the numbers have 64 bits, the values of the unknowns are small
pub record HaveShortValues (l : KeptLists) : Type 0 where
  pub first : l.is_wide ≡ false → IsSmall (2 ^ 62) l.short.firsts.items
  pub second : l.is_wide ≡ false → IsSmall (2 ^ 62) l.short.seconds.items

-- at the opening the unknowns stand in the columns, with the unit matrix, and no value is but 0
pub record AreOpening (s : LinearSystem) (l : Listed) : Type 0 where
  pub seats : IsOpeningSeats s (count s) l.seats
  pub columns : length l.nonbasic ≡ s.width
  pub own : (c : ℕ) → c < s.width → variable_at l.nonbasic c ≡ c
  pub square : length l.numbers ≡ s.width * s.width
  pub unit : IsUnit s.width l.numbers
  pub small : IsSmall 1 l.numbers
  pub first_size : length l.firsts ≡ s.width
  pub firsts : (j : ℕ) → whole_at l.firsts j ≡ pos 0
  pub second_size : length l.seconds ≡ s.width
  pub seconds : (j : ℕ) → whole_at l.seconds j ≡ pos 0

-- the same but for the seats, where further sides stand in the rows from a height on
pub record AreLonger (height longer : ℕ) (old new : Listed) : Type 0 where
  pub seated : (w n : ℕ) → IsSeated height w n old.seats → IsSeated longer w (n + (longer - height)) new.seats
  pub grown : (w n : ℕ) → IsSeated height w n old.seats → AreLongerSeats n old.seats new.seats
  pub nonbasic : new.nonbasic ≡ old.nonbasic
  pub numbers : new.numbers ≡ old.numbers
  pub firsts : new.firsts ≡ old.firsts
  pub seconds : new.seconds ≡ old.seconds
