use Rattle.std.proofs.Common.{◌≡◌, ◌∙◌, ◌↔◌, IsTrue, IfSome, ap, sym, subst}
use Rattle.mpc_rows.specs.LinearSystem.{LinearSystem, HasWidth}
use Rattle.mpc_beginnings.specs.Beginnings.{lengthened}
use Rattle.mpc_simplex.specs.Answer.{HasPoint}
use Rattle.mpc_simplex.proofs.LastTurn.{decides_some}
use Rattle.mpc_simplex.proofs.KeptWidths.{more_widths}
use Rattle.mpc_simplex.proofs.beginnings.Beginning.meets.Goals as goal

pub returns-clause-answer : goal.returns-clause-answer
returns-clause-answer c =
    let s = c.self.inside.run in
    let rows = c.args.rows.now.rows in
    let same : c.args.rows.now.width ≡ s.width = c.requires.width ∙ ap (λ (t : LinearSystem). t.width) (sym c.self.view_is) in
    let widths : HasWidth s.width rows = subst (λ w. HasWidth w rows) same c.has_width.ensures in
    subst (λ (t : LinearSystem). IfSome c.in_ok-answer.answer (λ b. IsTrue b ↔ HasPoint (lengthened t rows))) c.self.view_is
    (decides_some (lengthened s rows) c.system_theorems.ensures (more_widths s c.self.invariant rows widths) c.in_ok-answer.answer c.in_ok-answer.ensures.point c.in_ok-answer.ensures.refuted)
