-- Which error a call gives.
use Rattle.std.specs.Prelude.{ℕ, ⊤}
use Rattle.mpc_linear.specs.declared.errors.LinearError.{LinearError}
use Rattle.mpc_linear.specs.declared.errors.LinearError.TheVariants.{Wide, NoMemory}

-- what holds of the step that is named as wide
abbrev pub IfWide : LinearError → (ℕ → Type 0) → Type 0
IfWide (Wide step) P = P step
IfWide NoMemory P = ⊤
