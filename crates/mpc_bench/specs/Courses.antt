-- The first rows of a system, and how a run goes that goes on from them by the others.
use Rattle.std.specs.Prelude.{ℕ, Bool, take, ⊤}
use Rattle.mpc_rows.specs.LinearSystem.{LinearSystem}
use Rattle.mpc_bench.specs.declared.going_on.Course.{Course}
use Rattle.mpc_bench.specs.declared.going_on.Course.TheVariants.{NotBegun, Lost, Kept}

abbrev pub first_rows : LinearSystem → ℕ → LinearSystem
first_rows s count = record { width = s.width; rows = take count s.rows }

-- what holds where the run of all rows is kept, by whether it ends with a point
abbrev pub IfKept : Course → (Bool → Type 0) → Type 0
IfKept (Kept has_point) P = P has_point
IfKept (Lost n) P = ⊤
IfKept NotBegun P = ⊤

-- what holds where the run of so many rows is the last that is kept
abbrev pub IfLost : Course → (ℕ → Type 0) → Type 0
IfLost (Lost n) P = P n
IfLost (Kept has_point) P = ⊤
IfLost NotBegun P = ⊤
