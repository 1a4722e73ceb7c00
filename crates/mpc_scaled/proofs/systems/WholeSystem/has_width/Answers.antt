use Rattle.std.proofs.Common.{subst}
use Rattle.mpc_rows.specs.LinearSystem.{LinearSystem, HasWidth}
use Rattle.mpc_scaled.proofs.WholeAppended.{lists_wide}
use Rattle.mpc_scaled.proofs.systems.WholeSystem.has_width.Goals as goal

pub returns : goal.returns
returns c = subst (λ (s : LinearSystem). HasWidth s.width s.rows) c.self.view_is (lists_wide c.self.inside.lists)
