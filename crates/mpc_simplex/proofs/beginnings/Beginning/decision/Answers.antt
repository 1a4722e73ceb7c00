use Rattle.std.proofs.Common.{◌≡◌, rules, IfSome, Some, sym, subst}
use Rattle.mpc_rows.specs.LinearSystem.{LinearSystem, IsPairPoint}
use Rattle.mpc_rows.specs.Refutation.{Refutes}
use Rattle.mpc_runs.specs.declared.End.TheVariants.{Point, Refuted}
use Rattle.mpc_runs.specs.RunEnd.{IsEnd}
use Rattle.mpc_simplex.specs.Answer.{HasPoint, EndsWithPoint, EndsRefuted}
use Rattle.mpc_simplex.proofs.Decided.{ended-point, ended-refuted, ended-no_point}
use Rattle.mpc_simplex.proofs.beginnings.Beginning.decision.Goals as goal
use Rattle.mpc_simplex.proofs.beginnings.Beginning.decision.Goals.{In-Some-Point, In-Some-Refuted}

point_ends : (c : In-Some-Point) → EndsWithPoint c.self.inside.run c.in-Some-Point.point
point_ends c =
    let q : c.in_ok-point.field-0 ≡ Some (Point c.in-Some-Point.point) = first_of (cc, search rules) in
    subst (λ o. IfSome o (λ d. IsEnd c.self.inside.run d)) q (subst (λ (t : LinearSystem). IfSome c.in_ok-point.field-0 (λ d. IsEnd t d)) (sym c.self.view_is) c.in_ok-point.ensures)

refuted_ends : (c : In-Some-Refuted) → EndsRefuted c.self.inside.run c.in-Some-Refuted.multipliers
refuted_ends c =
    let q : c.in_ok-point.field-0 ≡ Some (Refuted c.in-Some-Refuted.multipliers) = first_of (cc, search rules) in
    subst (λ o. IfSome o (λ d. IsEnd c.self.inside.run d)) q (subst (λ (t : LinearSystem). IfSome c.in_ok-point.field-0 (λ d. IsEnd t d)) (sym c.self.view_is) c.in_ok-point.ensures)

pub returns-in-Some-Point-clause-point : goal.returns-in-Some-Point-clause-point
returns-in-Some-Point-clause-point c =
    let at = goal.at.returns-in-Some-Point-clause-point c in
    subst (λ (t : LinearSystem). IsPairPoint t c.in-Some-Point.point) c.self.view_is (ended-point c.system_theorems.ensures c.self.inside.run c.self.invariant c.in-Some-Point.point (point_ends at.In-Some-Point))

pub returns-in-Some-Point-clause-has_point : goal.returns-in-Some-Point-clause-has_point
returns-in-Some-Point-clause-has_point c =
    let at = goal.at.returns-in-Some-Point-clause-has_point c in
    subst HasPoint c.self.view_is
    (c.system_theorems.ensures.point_of_pairs c.self.inside.run c.in-Some-Point.point (ended-point c.system_theorems.ensures c.self.inside.run c.self.invariant c.in-Some-Point.point (point_ends at.In-Some-Point)))

pub returns-in-Some-Refuted-clause-refuted : goal.returns-in-Some-Refuted-clause-refuted
returns-in-Some-Refuted-clause-refuted c =
    let at = goal.at.returns-in-Some-Refuted-clause-refuted c in
    subst (λ (t : LinearSystem). Refutes t c.in-Some-Refuted.multipliers) c.self.view_is (ended-refuted c.system_theorems.ensures c.self.inside.run c.self.invariant c.in-Some-Refuted.multipliers (refuted_ends at.In-Some-Refuted))

pub returns-in-Some-Refuted-clause-no_point : goal.returns-in-Some-Refuted-clause-no_point
returns-in-Some-Refuted-clause-no_point c =
    let at = goal.at.returns-in-Some-Refuted-clause-no_point c in
    subst (λ (t : LinearSystem). ¬ HasPoint t) c.self.view_is (ended-no_point c.system_theorems.ensures c.self.inside.run c.self.invariant c.in-Some-Refuted.multipliers (refuted_ends at.In-Some-Refuted))
