use Rattle.mpc_tree.specs.Cells.{NoneMeetsBefore}
use Rattle.mpc_tree.specs.CellRuns.{IsOpenAt}
use Rattle.mpc_tree.specs.Missed.{IsSearchOf}
use Rattle.mpc_tree.specs.NodeRuns.{MeetsFit}
use Rattle.mpc_tree.proofs.nodes.first_meeting.Given as goal

abbrev pub invariant-loop-place : goal.invariant-loop-place
invariant-loop-place l = record {
  none : NoneMeetsBefore l.qp l.laws l.cell.rows.items l.place;
  fits : MeetsFit l.qp l.laws (record { rows = l.cell.rows.items; next = l.fn.at.next }) l.place;
  opened : IsOpenAt l.cell.run l.kept.work;
  kept : IsSearchOf l.qp l.borders l.cell.rows.items l.kept;
}
