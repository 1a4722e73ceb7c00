use Rattle.std.proofs.Common.{◌≡◌, [], ◌∷◌, List, length, IfSome, sym, ◌∙◌, ap, subst}
use Rattle.mpc_rows.specs.declared.systems.Row.{Row}
use Rattle.mpc_rows.specs.LinearSystem.{LinearSystem}
use Rattle.mpc_beginnings.specs.Beginnings.{lengthened}
use Rattle.mpc_simplex.proofs.KeptWidths.{same_widths, one_width}
use Rattle.mpc_simplex.proofs.beginnings.Beginning.extend_in.Goals as goal

pub invariant_of-result : goal.invariant_of-result
invariant_of-result c =
    let s = c.self.inside.run in
    let more : List Row = c.args.row.now ∷ [] in
    let wide : length c.args.row.now.a ≡ s.width = c.requires ∙ ap (λ (t : LinearSystem). t.width) (sym c.self.view_is) in
    let e : c.in-Some.run' ≡ lengthened s more = subst (λ o. IfSome o (λ (t : LinearSystem). t ≡ lengthened s more)) c.in-Some.is c.in_ok-run.ensures in
    same_widths (lengthened s more) (one_width s c.self.invariant c.args.row.now wide) c.in-Some.run' (sym e)
