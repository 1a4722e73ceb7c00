-- What the numbers of a position may have where one limit serves for all rows.
use Rattle.std.specs.Prelude.{ℕ, ℤ, ◌*◌, ◌≤◌, ◌^◌, List}
use Rattle.mpc_rows.specs.LinearSystem.{LinearSystem}
use Rattle.mpc_rows.specs.Run.{count}
use Rattle.mpc_runs.specs.declared.variables.Seat.{Seat}
use Rattle.mpc_whole.specs.declared.judged.WidePlace.{WidePlace}
use Rattle.mpc_scaled.specs.declared.systems.WholeNumbers.{WholeNumbers}
use Rattle.mpc_whole.specs.Whole.{IsNarrow, HasBounds}
use Rattle.mpc_runs.specs.WholeNumbers.{HasRoom}
use Rattle.mpc_scaled.specs.Scaled.{IsSmall}

-- numbers of a position up to most have bounds, and the sizes that are kept of those that stand and of those before are within that
pub record IsLimit (s : LinearSystem) (m : WholeNumbers) (p : WidePlace) (most : ℕ) : Type 0 where
  pub bounds : HasBounds s m.scales.now m.a.now m.b.now most
  pub room : HasRoom s.width (2 ^ 62) m.a.now
  pub top : most ≤ 2 ^ 62
  pub own_small : p.own ≤ most
  pub den_small : p.den ≤ 2 ^ 62
  pub narrow : (seats : List Seat) (v : List ℤ) → IsSmall p.own v → IsNarrow s (count s) seats m.scales.now m.a.now p.den v
  pub kept_small : p.greatest ≤ most
  pub kept_den_small : p.greatest_den * m.most_scale ≤ 2 ^ 62
