use Rattle.std.proofs.Common.{◌≡◌, IfSome, sym, ◌∙◌, subst}
use Rattle.mpc_rows.specs.RunWidth.{RunFits}
use Rattle.mpc_simplex.specs.Answer.{HasPoint, EndsRefuted, IsRunEnd, IfRefuted}
use Rattle.mpc_beginnings.specs.Beginnings.{lengthened}
use Rattle.mpc_recur.specs.Findings.{IsRuledOut}
use Rattle.mpc_recur.specs.Targets.{with_rows}
use Rattle.mpc_recur.proofs.AskedLemmas.{ruled_out_among, some_holds}
use Rattle.mpc_recur.proofs.bases.Base.rules_out_all.Goals as goal

pub returns : goal.returns
returns c = λ yes more among.
    let run = c.in-Some.run' in
    let m = c.in-Some-Refuted.field-0-0 in
    let same : run ≡ c.args.self.now = subst (λ o. IfSome o (λ r. r ≡ c.self.inside.system)) c.in-Some.is c.self.invariant ∙ c.self.view_is in
    let ends : EndsRefuted run m = subst (IsRunEnd run) c.in-Some-Refuted.field-0-is (subst (λ o. IfSome o (IsRunEnd run)) c.in-Some-Refuted.is c.in_ok-decision.ensures.end) in
    let none : ¬ HasPoint run = subst (λ d. IfRefuted d (λ _. ¬ HasPoint run)) c.in-Some-Refuted.field-0-is (subst (λ o. IfSome o (λ d. IfRefuted d (λ _. ¬ HasPoint run))) c.in-Some-Refuted.is c.in_ok-decision.ensures.no_point) in
    let fits : RunFits (lengthened run c.args.rows.now.rows) = some_holds c.in_ok-met.met _ (sym c.is_some.ensures ∙ yes) c.in_ok-met.ensures.fits in
    subst (λ s. IsRuledOut (Unit {0}) (with_rows s more)) same (ruled_out_among c.shared_beginning.ensures.fit_refuted run c.args.rows.now m ends none fits more among)
