use Rattle.std.proofs.Common.{◌≡◌, ◌-◌, ◌*◌, arith, length, subst}
use Rattle.mpc_rows.specs.RunWidth.{RunFits}
use Rattle.mpc_simplex.specs.Answer.{HasPoint}
use Rattle.mpc_beginnings.specs.Beginnings.{lengthened}
use Rattle.mpc_systems.specs.Systems.{meet_system}
use Rattle.mpc_tree.specs.Missed.{IsMissed}
use Rattle.mpc_tree.proofs.CellRuns.{behind_width, behind_rows}
use Rattle.mpc_tree.proofs.MissedLaws.{missed_behind}
use Rattle.mpc_tree.proofs.nodes.kept_answer.Goals as goal
use Rattle.mpc_tree.proofs.nodes.kept_answer.Goals.{In-Some-whole}

rows_are : (c : In-Some-whole) → lengthened c.in-Some.run' c.in-Some-whole.rows.now.rows ≡ meet_system c.args.qp.now c.args.cell.now.rows.items c.args.border.now
rows_are c = behind_rows c.args.qp.now c.args.cell.now.rows.items c.args.cell.now.run c.requires.run c.in-Some.run' c.in-Some.is c.args.border.now c.len.result c.len.ensures c.in-Some-whole.rows.now c.in-Some-whole.ensures

pub meeting-requires-clause-width : goal.meeting-requires-clause-width
meeting-requires-clause-width c = behind_width c.args.qp.now c.args.cell.now.rows.items c.args.cell.now.run c.requires.run c.in-Some.run' c.in-Some.is c.args.border.now c.len.result c.len.ensures c.in-Some-whole.rows.now c.in-Some-whole.ensures

pub returns-in-Some-Point-clause-answer : goal.returns-in-Some-Point-clause-answer
returns-in-Some-Point-clause-answer c = subst HasPoint (rows_are (goal.at.returns-in-Some-Point-clause-answer c).In-Some-whole) (rw (c.in-Some-Point.is, c.in-Some-Point.field-0-is) at c.in_ok-meeting.ensures.point)

pub returns-in-Some-Point-clause-fits : goal.returns-in-Some-Point-clause-fits
returns-in-Some-Point-clause-fits c = subst RunFits (rows_are (goal.at.returns-in-Some-Point-clause-fits c).In-Some-whole) (rw c.in-Some-Point.is at c.in_ok-meeting.ensures.fits)

pub returns-in-Some-Missed-clause-answer : goal.returns-in-Some-Missed-clause-answer
returns-in-Some-Missed-clause-answer c =
    let own : c.in-Some-Missed.first - 2 * length c.args.qp.now.counts ≡ c.saturating_sub-own.result = omega arith in
    subst (IsMissed c.args.qp.now c.args.cell.now.rows.items c.args.border.now) own
    (missed_behind c.args.qp.now c.args.border.now c.args.cell.now.rows.items c.args.cell.now.run c.requires.run c.in-Some.run' c.in-Some.is c.len.result c.in-Some-whole.rows.now c.in-Some-whole.ensures c.in-Some-Missed.first (rw (c.in-Some-Missed.is, c.in-Some-Missed.field-0-is) at c.in_ok-meeting.ensures.missed))

pub returns-in-Some-Missed-clause-fits : goal.returns-in-Some-Missed-clause-fits
returns-in-Some-Missed-clause-fits c = subst RunFits (rows_are (goal.at.returns-in-Some-Missed-clause-fits c).In-Some-whole) (rw c.in-Some-Missed.is at c.in_ok-meeting.ensures.fits)
