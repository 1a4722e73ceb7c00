use Rattle.std.proofs.Common.{◌≡◌, ◌∙◌, ◌<◌, Some, slice_get, subst, sym, ap, refl, length, arith}
use Rattle.std.proofs.lemmas.Option.{slice_get_read, slice_get_within}
use Rattle.mpc_simplex.specs.Answer.{HasPoint}
use Rattle.mpc_systems.specs.Systems.{joint_system}
use Rattle.mpc_tree.specs.Growth.{IsFirstMeeting, IsNoMeeting, IsMeeting}
use Rattle.mpc_tree.proofs.NodeLemmas.{no_joint}
use Rattle.mpc_tree.proofs.Placing.{met_border, few_rows, split_placed, law_placed, row_wide}
use Rattle.mpc_tree.proofs.nodes.place_node.Goals as goal
use Rattle.mpc_tree.proofs.nodes.place_node.Goals.{After-as_slice-rows}

meeting : (c : After-as_slice-rows) → IsMeeting c.args.qp.now c.args.laws.now (record { rows = c.args.cell.now.rows.items; next = c.args.at.next }) c.in-Some.met.place
meeting c = subst (IsFirstMeeting c.args.qp.now c.args.laws.now (record { rows = c.args.cell.now.rows.items; next = c.args.at.next })) c.in-Some.is c.in_ok-first_meeting.ensures.first

is_border : (c : After-as_slice-rows) → slice_get c.args.borders.now c.in-Some.met.place ≡ Some c.as_slice-rows.result.now
is_border c =
    let inside : c.in-Some.met.place < length c.args.laws.now = slice_get_within c.args.laws.now c.in-Some.met.place (meeting c).law (meeting c).first.is in
    let within : c.in-Some.met.place < length c.args.borders.now = omega (arith, c.requires.borders.one_each) in
    slice_get_read c.args.borders.now (length c.args.borders.now) c.in-Some.met.place c.index-borders-place.result refl within c.index-borders-place.is ∙ ap Some (sym c.as_slice-rows.ensures)

pub joint_cert-requires-clause-no_point : goal.joint_cert-requires-clause-no_point
joint_cert-requires-clause-no_point c =
    let none : IsNoMeeting c.args.qp.now c.args.laws.now (record { rows = c.args.cell.now.rows.items; next = c.args.at.next }) = subst (IsFirstMeeting c.args.qp.now c.args.laws.now (record { rows = c.args.cell.now.rows.items; next = c.args.at.next })) c.in-None.is c.in_ok-first_meeting.ensures.first in
    subst (λ rows. ¬ HasPoint (joint_system c.args.qp.now rows)) (sym c.deref.ensures.value) (no_joint c.args.qp.now c.args.laws.now c.args.cell.now.rows.items none.none c.cell_theorems.ensures c.requires.cover.covers c.requires.cell)

pub first_failing-requires-clause-few : goal.first_failing-requires-clause-few
first_failing-requires-clause-few c =
    let d = (goal.at.first_failing-requires-clause-few c).After-as_slice-rows in
    few_rows c.args.qp.now c.args.laws.now c.args.borders.now c.requires.borders (record { rows = c.args.cell.now.rows.items; next = c.args.at.next }) c.in-Some.met.place (meeting d) c.as_slice-rows.result.now (is_border d)

pub first_failing-requires-clause-plain : goal.first_failing-requires-clause-plain
first_failing-requires-clause-plain c =
    let d = (goal.at.first_failing-requires-clause-plain c).After-as_slice-rows in
    (met_border c.args.qp.now c.args.laws.now c.args.borders.now c.requires.borders (record { rows = c.args.cell.now.rows.items; next = c.args.at.next }) c.in-Some.met.place (meeting d) c.as_slice-rows.result.now (is_border d)).plain

pub returns-in-Ok-Fails-clause-placed : goal.returns-in-Ok-Fails-clause-placed
returns-in-Ok-Fails-clause-placed c =
    let d = (goal.at.returns-in-Ok-Fails-clause-placed c).After-as_slice-rows in
    split_placed c.args.qp.now c.args.laws.now c.args.borders.now c.requires.borders (record { rows = c.args.cell.now.rows.items; next = c.args.at.next }) c.in-Some.met.place (meeting d) c.as_slice-rows.result.now (is_border d) c.in-Ok-Fails.row c.in-Ok-Fails.run' (rw c.in-Ok-Fails.field-0-is at c.in-Ok-Fails.ensures.held)

pub returns-in-Ok-Holds-clause-placed : goal.returns-in-Ok-Holds-clause-placed
returns-in-Ok-Holds-clause-placed c =
    let d = (goal.at.returns-in-Ok-Holds-clause-placed c).After-as_slice-rows in
    law_placed c.args.qp.now c.args.laws.now c.args.borders.now c.requires.borders (record { rows = c.args.cell.now.rows.items; next = c.args.at.next }) c.in-Some.met.place (meeting d) c.as_slice-rows.result.now (is_border d) c.cell_theorems.ensures c.in-Ok-Holds.certs (rw c.in-Ok-Holds.field-0-is at c.in-Ok-Holds.ensures.held)

pub returns-in-Err-clause-wide : goal.returns-in-Err-clause-wide
returns-in-Err-clause-wide c =
    let d = (goal.at.returns-in-Err-clause-wide c).After-as_slice-rows in
    row_wide c.args.qp.now c.args.laws.now c.args.borders.now c.requires.borders (record { rows = c.args.cell.now.rows.items; next = c.args.at.next }) c.in-Some.met.place (meeting d) c.as_slice-rows.result.now (is_border d) c.args.at.node c.in-Err.error c.in-Err.ensures.wide

pub first_failing-requires-clause-left_out : goal.first_failing-requires-clause-left_out
first_failing-requires-clause-left_out c =
    let d = (goal.at.first_failing-requires-clause-left_out c).After-as_slice-rows in
    (rw c.in-Some.is at c.in_ok-first_meeting.ensures.left_out) c.as_slice-rows.result.now (is_border d)
