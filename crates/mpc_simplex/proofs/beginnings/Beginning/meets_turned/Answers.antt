use Rattle.std.proofs.Common.{◌↔◌, ◌<◌, [], ◌∷◌, List, IsTrue, IfSome, sym, subst}
use Rattle.mpc_rows.specs.declared.systems.Row.{Row}
use Rattle.mpc_rows.specs.LinearSystem.{LinearSystem, height, row_at}
use Rattle.mpc_rows.specs.SetRuns.{turned}
use Rattle.mpc_beginnings.specs.Beginnings.{lengthened}
use Rattle.mpc_simplex.specs.Answer.{HasPoint}
use Rattle.mpc_simplex.proofs.LastTurn.{decides_some}
use Rattle.mpc_simplex.proofs.KeptWidths.{turned_width}
use Rattle.mpc_simplex.proofs.beginnings.Beginning.meets_turned.Goals as goal

pub returns-clause-answer : goal.returns-clause-answer
returns-clause-answer c =
    let s = c.self.inside.run in
    let more : List Row = turned (row_at s c.args.index) ∷ [] in
    let below : c.args.index < height s = subst (λ (t : LinearSystem). c.args.index < height t) (sym c.self.view_is) c.requires in
    subst (λ (t : LinearSystem). IfSome c.in_ok-answer.answer (λ b. IsTrue b ↔ HasPoint (lengthened t (turned (row_at t c.args.index) ∷ [])))) c.self.view_is
    (decides_some (lengthened s more) c.system_theorems.ensures (turned_width s c.self.invariant c.args.index below) c.in_ok-answer.answer c.in_ok-answer.ensures.point c.in_ok-answer.ensures.refuted)
