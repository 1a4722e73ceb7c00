use Rattle.std.proofs.Common.{sym, ◌∙◌, ap, subst}
use Rattle.mpc_exact.specs.Rational.{neg_ℚ}
use Rattle.mpc_space.specs.Vector.{coordinate}
use Rattle.mpc_space.proofs.Outcomes.{value_as}
use Rattle.mpc_rows.specs.LawRows.{IsPlaceAmong}
use Rattle.mpc_rows.proofs.LawRowLemmas.{form_outside, member_coefficient}
use Rattle.mpc_rows.proofs.law_rows.form_at.Goals as goal

pub returns-in-Some-clause-value : goal.returns-in-Some-clause-value
returns-in-Some-clause-value c =
    let place = subst (IsPlaceAmong c.args.law.now.set c.args.row) c.in-Some.is c.requires.place in
    member_coefficient c.args.qp.now c.args.law.now c.args.row c.args.column c.in-Some.k c.neg.result place.0 place.1 (c.neg.ensures ∙ ap neg_ℚ c.get.ensures)

pub returns-in-None-clause-value : goal.returns-in-None-clause-value
returns-in-None-clause-value c =
    let outside = subst (IsPlaceAmong c.args.law.now.set c.args.row) c.in-None.is c.requires.place in
    value_as c.excess_at.result _ _ (ap (λ f. coordinate f c.args.column) (sym (form_outside c.args.qp.now c.args.law.now c.args.row outside))) c.excess_at.ensures.value
