use Rattle.std.proofs.Common.{IfSome, subst}
use Rattle.std.proofs.lemmas.Option.{IfSome_then}
use Rattle.mpc_rows.specs.LinearSystem.{LinearSystem, HasWidth}
use Rattle.mpc_beginnings.specs.Beginnings.{lengthened}
use Rattle.mpc_simplex.specs.Answer.{EndsRefuted}
use Rattle.mpc_simplex.proofs.Decided.{ended-refuted, ended-no_point}
use Rattle.mpc_simplex.proofs.KeptWidths.{AreWide, same_widths, more_widths}
use Rattle.mpc_simplex.proofs.beginnings.Beginning.refute.Goals as goal
use Rattle.mpc_simplex.proofs.beginnings.Beginning.refute.Goals.{In_ok-multipliers}

wide : (c : In_ok-multipliers) → AreWide (lengthened c.args.self.now c.args.rows.now.rows)
wide c = more_widths c.args.self.now (same_widths c.self.inside.run c.self.invariant c.args.self.now c.self.view_is) c.args.rows.now.rows (subst (λ n. HasWidth n c.args.rows.now.rows) c.requires.width c.has_width.ensures)

end : (c : In_ok-multipliers) → IfSome c.in_ok-multipliers.multipliers (EndsRefuted (lengthened c.args.self.now c.args.rows.now.rows))
end c = subst (λ (t : LinearSystem). IfSome c.in_ok-multipliers.multipliers (EndsRefuted (lengthened t c.args.rows.now.rows))) c.self.view_is c.in_ok-multipliers.ensures.end

pub returns-clause-refuted : goal.returns-clause-refuted
returns-clause-refuted c =
    let at = (goal.at.returns-clause-refuted c).In_ok-multipliers in
    IfSome_then c.in_ok-multipliers.multipliers (end at) (λ m e. ended-refuted c.system_theorems.ensures (lengthened c.args.self.now c.args.rows.now.rows) (wide at) m e)

pub returns-clause-no_point : goal.returns-clause-no_point
returns-clause-no_point c =
    let at = (goal.at.returns-clause-no_point c).In_ok-multipliers in
    IfSome_then c.in_ok-multipliers.multipliers (end at) (λ m e. ended-no_point c.system_theorems.ensures (lengthened c.args.self.now c.args.rows.now.rows) (wide at) m e)
