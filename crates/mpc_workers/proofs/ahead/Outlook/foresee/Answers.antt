use Rattle.std.proofs.Common.{List, ℕ, All, sym, subst}
use Rattle.mpc_rows.specs.declared.programs.Qp.{Qp}
use Rattle.mpc_rows.specs.Candidates.{IsCandidate}
use Rattle.mpc_rows.specs.Verdicts.{IsRight}
use Rattle.mpc_workers.specs.Ahead.{AreKnown}
use Rattle.mpc_workers.proofs.Foreseen.{known_more}
use Rattle.mpc_workers.proofs.ahead.Outlook.foresee.Goals as goal

pub invariant_of-self : goal.invariant_of-self
invariant_of-self c = (subst (AreKnown c.self.inside.examiner) (sym c.reserve.ensures.items) c.self.invariant.0, c.self.invariant.1)

pub invariant_of-self-in_err-judged : goal.invariant_of-self-in_err-judged
invariant_of-self-in_err-judged c =
    subst (λ (q : Qp). AreKnown q c.reserve.new.self.items × All (IsCandidate q) c.self.inside.ahead.sets.items) (sym c.examine.ensures.program)
    (subst (AreKnown c.self.inside.examiner) (sym c.reserve.ensures.items) c.self.invariant.0, c.self.invariant.1)

pub invariant_of-self-2 : goal.invariant_of-self-2
invariant_of-self-2 c =
    let there : AreKnown c.self.inside.examiner c.reserve.new.self.items = subst (AreKnown c.self.inside.examiner) (sym c.reserve.ensures.items) c.self.invariant.0 in
    let right = subst (λ (s : List ℕ). IsRight c.self.inside.examiner s c.in_ok-judged.judged.verdict) (sym c.in_ok-judged.ensures.set) c.in_ok-judged.ensures.right in
    subst (λ (q : Qp). AreKnown q c.push_back_reserved.new.self.items × All (IsCandidate q) c.self.inside.ahead.sets.items) (sym c.examine.ensures.program)
    (known_more c.self.inside.examiner c.reserve.new.self.items c.push_back_reserved.new.self.items _ c.push_back_reserved.ensures.items there right, c.self.invariant.1)
