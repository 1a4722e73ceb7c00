use Rattle.std.proofs.Common.{◌∙◌, ap}
use Rattle.mpc_rows.specs.LinearSystem.{LinearSystem}
use Rattle.mpc_scaled.proofs.WholeSystems.{copied_rows, copied_lists}
use Rattle.mpc_scaled.proofs.systems.WholeSystem.reserve.Goals as goal

pub invariant_of-self : goal.invariant_of-self
invariant_of-self c = copied_lists c.self.inside.lists c.reserve.new.lists c.self.invariant c.reserve.ensures

pub returns-clause-rows : goal.returns-clause-rows
returns-clause-rows c = copied_rows c.self.inside.lists c.reserve.new.lists c.self.invariant c.reserve.ensures ∙ ap (λ (s : LinearSystem). s.rows) c.self.view_is
