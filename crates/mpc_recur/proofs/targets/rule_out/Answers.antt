use Rattle.std.proofs.Common.{refl, subst}
use Rattle.mpc_recur.specs.Findings.{IsRuledOut, IsReached, TargetFits}
use Rattle.mpc_recur.proofs.targets.rule_out.Goals as goal

pub returns-in-Ok-Refuted : goal.returns-in-Ok-Refuted
returns-in-Ok-Refuted c =
    subst (IsRuledOut (Unit {0})) c.in_ok-system.ensures
    (record { fits = record { rows_fit = tt; run_fits = c.in-Ok-Refuted.ensures.wide }; no_point = rw c.in-Ok-Refuted.field-0-is at c.in-Ok-Refuted.ensures.no_point })

pub returns-in-Ok-Point : goal.returns-in-Ok-Point
returns-in-Ok-Point c = (
  refl,
  subst (λ s. IsReached (Unit {0}) s c.in-Ok-Point.point) c.in_ok-system.ensures
      (record {
        fits = record { rows_fit = tt; run_fits = c.in-Ok-Point.ensures.wide };
        point = rw c.in-Ok-Point.field-0-is at c.in-Ok-Point.ensures.point;
        ends = rw c.in-Ok-Point.field-0-is at c.in-Ok-Point.ensures.end;
      }),
)

pub returns-in-Err-Wide : goal.returns-in-Err-Wide
returns-in-Err-Wide c = (
  refl,
  subst (λ s. ¬ TargetFits (Unit {0}) s) c.in_ok-system.ensures
      (λ f. (rw c.in-Err-Wide.field-0-is at c.in-Err-Wide.ensures.wide) f.run_fits),
)
