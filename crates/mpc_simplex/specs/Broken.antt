-- Where a row fails: what `breaks` answers.
use Rattle.std.specs.Prelude.{List, ⊤}
use Rattle.mpc_exact.specs.Rational.{ℚ}
use Rattle.mpc_rows.specs.LinearSystem.{LinearSystem}
use Rattle.mpc_simplex.specs.declared.beginnings.Broken.{Broken}
use Rattle.mpc_simplex.specs.declared.beginnings.Broken.TheVariants.{Point, Refuted}

-- what holds of the run where the row fails at a point, or of the multipliers where it doesn't
abbrev pub IfBroken : Broken → (LinearSystem → Type 0) → Type 0
IfBroken (Point run) P = P run
IfBroken (Refuted m) P = ⊤

abbrev pub IfUnbroken : Broken → (List ℚ → Type 0) → Type 0
IfUnbroken (Point run) P = ⊤
IfUnbroken (Refuted m) P = P m
