-- Who may leave at a position of a run.
use Rattle.std.specs.Prelude.{◌≡◌, ℕ, ◌<◌, false}
use Rattle.mpc_rows.specs.LinearSystem.{LinearSystem}
use Rattle.mpc_rows.specs.Run.{Position, may_leave}

-- no variable before this one may leave at a position
abbrev pub StayBefore : LinearSystem → Position → ℕ → Type 0
StayBefore s p first = (x : ℕ) → x < first → may_leave s p x ≡ false
