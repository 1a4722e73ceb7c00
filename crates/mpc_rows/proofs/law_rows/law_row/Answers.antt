use Rattle.std.proofs.Common.{◌≡◌, ◌∙◌, ap, subst₂, IfOk, List, length, ◌↔◌}
use Rattle.std.proofs.lemmas.Result.{IfOk-weaker}
use Rattle.mpc_exact.specs.Rational.{ℚ, neg_ℚ}
use Rattle.mpc_linear.specs.Whole.{IsScaledRow}
use Rattle.mpc_rows.specs.LinearSystem.{MeetsRow}
use Rattle.mpc_rows.specs.LawRows.{law_sides, law_bound, MeetsCondition, whole_row}
use Rattle.mpc_rows.proofs.LawPoints.{law_row_points, law_row_size}
use Rattle.mpc_rows.proofs.law_rows.law_row.Goals as goal
use Rattle.mpc_rows.proofs.law_rows.law_row.Goals.{After-primitive}

scaled : (c : After-primitive) → IfOk c.primitive.result (λ r. IsScaledRow (law_sides c.args.qp.now c.args.law.now c.args.row) (law_bound c.args.qp.now c.args.law.now c.args.row) r.a r.b)
scaled c =
    subst₂ (λ a b. IfOk c.primitive.result (λ r. IsScaledRow a b r.a r.b)) c.in_ok-sides.ensures.value (c.neg.ensures ∙ ap neg_ℚ c.in-Ok.ensures.value)
    c.primitive.ensures.scaled

pub returns-clause-size : goal.returns-clause-size
returns-clause-size c =
    IfOk-weaker c.primitive.result (λ r. IsScaledRow (law_sides c.args.qp.now c.args.law.now c.args.row) (law_bound c.args.qp.now c.args.law.now c.args.row) r.a r.b) (λ r. length r.a ≡ length c.args.qp.now.counts)
    (law_row_size c.args.qp.now c.args.law.now c.args.row c.requires.shape) (scaled (goal.at.returns-clause-size c).After-primitive)

pub returns-clause-points : goal.returns-clause-points
returns-clause-points c =
    IfOk-weaker c.primitive.result (λ r. IsScaledRow (law_sides c.args.qp.now c.args.law.now c.args.row) (law_bound c.args.qp.now c.args.law.now c.args.row) r.a r.b)
    (λ r. (t : List ℚ) → length t ≡ length c.args.qp.now.counts → MeetsRow t (whole_row r) ↔ MeetsCondition c.args.qp.now c.args.law.now c.args.row t)
    (λ r k t e. law_row_points c.args.qp.now c.args.law.now c.args.row t e r k) (scaled (goal.at.returns-clause-points c).After-primitive)
