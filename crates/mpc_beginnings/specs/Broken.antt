-- What the run of a system with a row behind that is met where another fails ends with.
use Rattle.std.specs.Prelude.{◌≡◌, List}
use Rattle.mpc_exact.specs.Rational.{ℚ}
use Rattle.mpc_rows.specs.LinearSystem.{LinearSystem}
use Rattle.mpc_rows.specs.Run.{has_point, turn, last_position}
use Rattle.mpc_rows.specs.RunWidth.{RunFits}
use Rattle.mpc_runs.specs.RunEnd.{EndsRefuted}
use Rattle.mpc_beginnings.specs.declared.kept.Broken.{Broken}
use Rattle.mpc_beginnings.specs.declared.kept.Broken.TheVariants.{Point, Refuted}

-- multipliers that refute the system, and all that the run forms fits
abbrev pub IsRefutedEnd : LinearSystem → List ℚ → Type 0
IsRefutedEnd s m = EndsRefuted s m × RunFits s

-- a point, with the run of the system, or the multipliers that refute it
abbrev pub IsBroken : LinearSystem → Broken → Type 0
IsBroken s (Point run) = (run ≡ s) × (turn s (last_position s) ≡ has_point)
IsBroken s (Refuted m) = EndsRefuted s m

-- and all that the run forms fits
abbrev pub IsBrokenEnd : LinearSystem → Broken → Type 0
IsBrokenEnd s b = IsBroken s b × RunFits s
