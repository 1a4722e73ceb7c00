-- What `decide` answers.
use Rattle.std.specs.Prelude.{List, ⊤}
use Rattle.mpc_exact.specs.Rational.{ℚ}
use Rattle.mpc_rows.specs.LinearSystem.{LinearSystem, IsPoint}
pub use Rattle.mpc_runs.specs.RunEnd.{IsValues, IsMultipliers, EndsWithPoint, EndsRefuted}
use Rattle.mpc_simplex.specs.declared.Decision.{Decision}
use Rattle.mpc_simplex.specs.declared.Decision.TheVariants.{Point, Refuted}
use Rattle.mpc_simplex.specs.declared.SimplexError.{SimplexError}
use Rattle.mpc_simplex.specs.declared.SimplexError.TheVariants.{Wide, NoMemory}

-- what holds of the point, or of the multipliers, that are answered
abbrev pub IfPoint : Decision → (List (ℚ × ℚ) → Type 0) → Type 0
IfPoint (Point p) P = P p
IfPoint (Refuted m) P = ⊤

abbrev pub IfRefuted : Decision → (List ℚ → Type 0) → Type 0
IfRefuted (Point p) P = ⊤
IfRefuted (Refuted m) P = P m

-- what holds where the error is that a number is too wide
abbrev pub IfWide : SimplexError → Type 0 → Type 0
IfWide Wide P = P
IfWide NoMemory P = ⊤

abbrev pub HasPoint : LinearSystem → Type 0
HasPoint s = (v : List ℚ) × IsPoint s v

abbrev pub IsRunEnd : LinearSystem → Decision → Type 0
IsRunEnd s (Point v) = EndsWithPoint s v
IsRunEnd s (Refuted m) = EndsRefuted s m
