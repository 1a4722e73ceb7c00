-- Cases of an answer.
use Rattle.std.proofs.Common.{ℕ}
use Rattle.mpc_linear.specs.Answers.{IfWide}
use Rattle.mpc_linear.specs.declared.errors.LinearError.{LinearError}
use Rattle.mpc_linear.specs.declared.errors.LinearError.TheVariants.{Wide, NoMemory}

pub IfWide-weaker : (e : LinearError) (P Q : ℕ → Type 0) → ((n : ℕ) → P n → Q n) → IfWide e P → IfWide e Q
IfWide-weaker (Wide step) P Q f h = f step h
IfWide-weaker NoMemory P Q f h = tt
