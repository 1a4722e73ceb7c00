-- Rows of which systems are made.
use Rattle.std.specs.Prelude.{◌≡◌, ℕ, ◌<◌, ◌^◌, ◌++◌, List, All, length, unsigned_abs}
use Rattle.mpc_space.specs.Vector.{zeros}
use Rattle.mpc_linear.specs.Whole.{AreSmall}
use Rattle.mpc_linear.specs.declared.integers.RowInt.{RowInt}
use Rattle.mpc_rows.specs.declared.programs.Qp.{Qp}
use Rattle.mpc_rows.specs.declared.systems.Row.{Row}

-- rows in so many unknowns, whose numbers are below 2^127 in size
pub record IsOfSize (width : ℕ) (row : RowInt) : Type 0 where
  pub size : length row.a ≡ width
  pub small : AreSmall row.a
  pub b_small : unsigned_abs row.b < 2 ^ 127

pub record AreOfSize (width : ℕ) (rows : List RowInt) : Type 0 where
  pub each : All (IsOfSize width) rows

-- each row of the cell has one coefficient a count
abbrev pub HasBoxWidth : Qp → List Row → Type 0
HasBoxWidth qp cell = All (λ r. length r.a ≡ length qp.counts) cell

-- a row with as many more coefficients, which are 0
abbrev pub widened : ℕ → Row → Row
widened more r = record { a = r.a ++ zeros more; b = r.b; strict = r.strict }
