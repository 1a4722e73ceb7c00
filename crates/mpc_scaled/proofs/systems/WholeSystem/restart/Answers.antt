use Rattle.std.proofs.Common.{ap, length, List, ℤ}
use Rattle.mpc_scaled.proofs.WholeSystems.{no_rows}
use Rattle.mpc_scaled.proofs.systems.WholeSystem.restart.Goals as goal

pub returns-in-Ok-clause-rows : goal.returns-in-Ok-clause-rows
returns-in-Ok-clause-rows c = no_rows _ _ (ap (λ (xs : List ℤ). length xs) c.clear.ensures.sides)

pub returns-in-Err-clause-rows : goal.returns-in-Err-clause-rows
returns-in-Err-clause-rows c = no_rows _ _ (ap (λ (xs : List ℤ). length xs) c.clear.ensures.sides)
