-- What is answered.
use Rattle.std.specs.Prelude.{ℕ, List, ⊤}
use Rattle.mpc_exact.specs.Rational.{ℚ}
use Rattle.mpc_online.specs.Wholes.{entries_of}
use Rattle.mpc_online.specs.Positions.{Position, Step, goes_to, ends}
use Rattle.mpc_online.specs.declared.Online.{Online}
use Rattle.mpc_online.specs.declared.Online.TheVariants.{Best, Refuted}
use Rattle.mpc_online.specs.declared.OnlineError.{OnlineError}
use Rattle.mpc_online.specs.declared.OnlineError.TheVariants.{Wide, NoMemory}
use Rattle.mpc_online.specs.declared.solutions.Stop.{Stop}
use Rattle.mpc_online.specs.declared.solutions.Stop.TheVariants.{Wide as WideStop, NoMemory as NoMemoryStop}
use Rattle.mpc_online.specs.declared.moves.Iterate.{Iterate}
use Rattle.mpc_online.specs.declared.run.Next.{Next}
use Rattle.mpc_online.specs.declared.run.Next.TheVariants.{Goes, Ends}

-- what holds of the choice, or of the multipliers, that are answered
abbrev pub IfBest : Online → (List ℚ → Type 0) → Type 0
IfBest (Best z) P = P z
IfBest (Refuted m) P = ⊤

abbrev pub IfRefuted : Online → (List ℚ → Type 0) → Type 0
IfRefuted (Best z) P = ⊤
IfRefuted (Refuted m) P = P m

-- what holds of the step that is named as wide
abbrev pub IfWide : OnlineError → (ℕ → Type 0) → Type 0
IfWide (Wide step) P = P step
IfWide NoMemory P = ⊤

-- what holds where a number is too wide
abbrev pub IfStopWide : Stop → Type 0 → Type 0
IfStopWide WideStop P = P
IfStopWide NoMemoryStop P = ⊤

-- the code's position and step
abbrev pub position_of : Iterate → Position
position_of it = record { point = entries_of it.point; set = it.set; multipliers = it.multipliers.items; row = it.row; weight = it.weight }

abbrev pub step_of : Next → Step
step_of (Goes it) = goes_to (position_of it)
step_of (Ends o) = ends o
