use Rattle.std.proofs.Common.{◌∙◌}
use Rattle.mpc_beginnings.proofs.kept.KeptRun.has_point.Goals as goal

pub returns-clause-refuted : goal.returns-clause-refuted
returns-clause-refuted c = λ h.
    let l = c.is_point.ensures.refuted h in
    record { row = l.0; ends = c.last.ensures.kept.ended.turns ∙ l.1 }
