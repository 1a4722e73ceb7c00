-- The lists of a run in 64 bits at a place of it.
use Rattle.std.specs.Prelude.{◌≡◌, ℕ, ◌≤◌, ◌^◌, List, ℤ, Some}
use Rattle.mpc_rows.specs.Least.{least}
use Rattle.mpc_rows.specs.LinearSystem.{LinearSystem}
use Rattle.mpc_rows.specs.Run.{count, may_leave, may_enter, position}
use Rattle.mpc_whole.specs.declared.whole.Ending.{Ending}
use Rattle.mpc_whole.specs.declared.whole.Place.{Place}
use Rattle.mpc_whole.specs.Lists.{Listed}
use Rattle.mpc_whole.specs.Underway.{IsUnderway, HasEnded}
use Rattle.mpc_whole.specs.Whole.{IsNarrow}
use Rattle.mpc_scaled.specs.Scaled.{IsSmall}

-- over this denominator the numbers are within what those of a position may have, and so narrow that no row forms a wide one
pub record AreHeld (s : LinearSystem) (k : List ℕ) (a : List ℤ) (most den : ℕ) (l : Listed) : Type 0 where
  pub small : IsSmall most l.numbers
  pub first_small : IsSmall (2 ^ 62) l.firsts
  pub second_small : IsSmall (2 ^ 62) l.seconds
  pub den_small : den ≤ 2 ^ 62
  pub narrow : IsNarrow s (count s) l.seats k a den l.numbers

-- the run stands there
abbrev pub AreUnderway : LinearSystem → List ℕ → Listed → Place → Type 0
AreUnderway s k l p = IsUnderway s (count s) l.seats k p.den l.numbers l.firsts l.seconds p.greatest p.greatest_den p.first

-- and x leaves there and y enters
pub record AreTurning (s : LinearSystem) (k : List ℕ) (l : Listed) (p : Place) (x y : ℕ) : Type 0 where
  pub underway : AreUnderway s k l p
  pub leaves : Some x ≡ least (may_leave s (position s underway.stands.at)) (count s)
  pub enters : Some y ≡ least (may_enter s (position s underway.stands.at) x) (count s)

-- the run ends there
abbrev pub HaveEnded : LinearSystem → List ℕ → Listed → Place → Ending → Type 0
HaveEnded s k l p end = HasEnded s (count s) l.seats k p.den l.numbers l.firsts l.seconds p.greatest p.greatest_den end
