use Rattle.std.proofs.Common.{◌≡◌, ◌<◌, [], ◌∷◌, List, IfSome, sym, subst}
use Rattle.mpc_rows.specs.declared.systems.Row.{Row}
use Rattle.mpc_rows.specs.LinearSystem.{LinearSystem, height, row_at}
use Rattle.mpc_rows.specs.SetRuns.{turned}
use Rattle.mpc_beginnings.specs.Beginnings.{lengthened}
use Rattle.mpc_simplex.proofs.KeptWidths.{same_widths, turned_width}
use Rattle.mpc_simplex.proofs.beginnings.Beginning.extend_turned.Goals as goal

pub invariant_of-result : goal.invariant_of-result
invariant_of-result c =
    let s = c.self.inside.run in
    let more : List Row = turned (row_at s c.args.index) ∷ [] in
    let below : c.args.index < height s = subst (λ (t : LinearSystem). c.args.index < height t) (sym c.self.view_is) c.requires in
    let e : c.in-Some.run' ≡ lengthened s more = subst (λ o. IfSome o (λ (t : LinearSystem). t ≡ lengthened s more)) c.in-Some.is c.in_ok-run.ensures in
    same_widths (lengthened s more) (turned_width s c.self.invariant c.args.index below) c.in-Some.run' (sym e)
