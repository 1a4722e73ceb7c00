use Rattle.std.proofs.Common.{◌↔◌, IsTrue, subst}
use Rattle.mpc_rows.specs.LinearSystem.{LinearSystem}
use Rattle.mpc_simplex.specs.Answer.{HasPoint}
use Rattle.mpc_simplex.proofs.LastTurn.{decides}
use Rattle.mpc_simplex.proofs.beginnings.Beginning.has_point.Goals as goal

pub returns-clause-answer : goal.returns-clause-answer
returns-clause-answer c =
    subst (λ (t : LinearSystem). IsTrue c.has_point.result ↔ HasPoint t) c.self.view_is
    (decides c.self.inside.run c.system_theorems.ensures c.self.invariant c.has_point.result c.has_point.ensures.point c.has_point.ensures.refuted)
