-- What a run with further rows behind ends with, and how many first rows its refutation takes.
use Rattle.std.specs.Prelude.{◌≡◌, ℕ, ◌<◌, ◌≤◌, pos}
use Rattle.mpc_exact.specs.Rational.{int}
use Rattle.mpc_rows.specs.LinearSystem.{LinearSystem}
use Rattle.mpc_rows.specs.Run.{has_point, is_refuted, turn, last_position, multiplier}
use Rattle.mpc_rows.specs.RunWidth.{RunFits}
use Rattle.mpc_beginnings.specs.declared.kept.Meeting.{Meeting}
use Rattle.mpc_beginnings.specs.declared.kept.Meeting.TheVariants.{Point, Missed}

-- the run ends refuted, with the multiplier 0 for each row from k on and before h
pub record IsRefutedWithin (s : LinearSystem) (k h : ℕ) : Type 0 where
  pub row : ℕ
  pub ends : turn s (last_position s) ≡ is_refuted row
  pub unused : (i : ℕ) → k ≤ i → i < h → multiplier s (last_position s) row i ≡ int (pos 0)

-- a point, or no point, as a refutation shows that takes no more than so many of the first h rows
abbrev pub IsMeeting : LinearSystem → ℕ → Meeting → Type 0
IsMeeting s h Point = turn s (last_position s) ≡ has_point
IsMeeting s h (Missed k) = (k ≤ h) × IsRefutedWithin s k h

-- and all that the run forms fits
abbrev pub IsMeetingEnd : LinearSystem → ℕ → Meeting → Type 0
IsMeetingEnd s h m = IsMeeting s h m × RunFits s
