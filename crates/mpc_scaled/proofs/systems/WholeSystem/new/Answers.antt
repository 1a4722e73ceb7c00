use Rattle.std.proofs.Common.{ap, length, List, ℤ}
use Rattle.mpc_scaled.proofs.WholeSystems.{no_rows}
use Rattle.mpc_scaled.proofs.systems.WholeSystem.new.Goals as goal

pub returns-clause-rows : goal.returns-clause-rows
returns-clause-rows c = no_rows _ _ (ap (λ (xs : List ℤ). length xs) c.new-2.ensures.items)
