use Rattle.std.proofs.Common.{ℕ, Option, Some, None}
use Rattle.std.specs.Prelude.{IfSome}
use Rattle.std.proofs.lemmas.Option.{IfSome_then}
use Rattle.mpc_rows.specs.LinearSystem.{LinearSystem, height}
use Rattle.mpc_rows.specs.RunWidth.{RunFits}
use Rattle.mpc_beginnings.specs.Beginnings.{lengthened}
use Rattle.mpc_beginnings.specs.Kept.{IsMet}
use Rattle.mpc_beginnings.specs.Meetings.{IsMeeting, IsMeetingEnd}
use Rattle.mpc_beginnings.specs.declared.kept.Meeting.{Meeting}
use Rattle.mpc_beginnings.proofs.kept.KeptRun.meets.Goals as goal
use Rattle.mpc_beginnings.proofs.kept.KeptRun.meets.Goals.{After-is_met}

both : (s : LinearSystem) (h : ℕ) (o : Option Meeting) → IfSome o (IsMeeting s h) → IfSome o (λ _. RunFits s) → IfSome o (IsMeetingEnd s h)
both s h None m f = m
both s h (Some x) m f = (m, f)

met : (c : After-is_met) → IfSome c.is_met.result (IsMet (lengthened c.args.self.now c.args.rows.now.rows))
met c = c.is_met.ensures (lengthened c.args.self.now c.args.rows.now.rows) (height c.args.self.now) (both _ _ c.in_ok-meeting.meeting c.in_ok-meeting.ensures.meeting c.in_ok-meeting.ensures.fits)

pub returns-clause-point : goal.returns-clause-point
returns-clause-point c = IfSome_then c.is_met.result (met (goal.at.returns-clause-point c).After-is_met) (λ yes m. m.point)

pub returns-clause-refuted : goal.returns-clause-refuted
returns-clause-refuted c = IfSome_then c.is_met.result (met (goal.at.returns-clause-refuted c).After-is_met) (λ yes m. m.refuted)

pub returns-clause-fits : goal.returns-clause-fits
returns-clause-fits c = IfSome_then c.is_met.result (met (goal.at.returns-clause-fits c).After-is_met) (λ yes m. m.fits)
