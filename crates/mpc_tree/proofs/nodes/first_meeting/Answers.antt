use Rattle.std.proofs.Common.{◌≡◌, ◌+◌, ◌<◌, inl, Some, slice_get, arith, refl, length}
use Rattle.std.proofs.lemmas.Option.{slice_get_read, slice_get_within}
use Rattle.mpc_tree.proofs.LeftOut.{held_left_out, none_left_out}
use Rattle.mpc_tree.proofs.MissedLaws.{missed_now, missed_noted}
use Rattle.mpc_tree.proofs.NodeLemmas.{law_of, border_of, meets_none, meets_fit, meets_first, meets_known, meets_wide}
use Rattle.mpc_tree.proofs.nodes.first_meeting.Goals as goal
use Rattle.mpc_tree.proofs.nodes.first_meeting.Goals.{After-index-borders-place}

is_border : (c : After-index-borders-place) → slice_get c.args.borders.now c.loop-place.place ≡ Some c.index-borders-place.result
is_border c =
    let within : c.loop-place.place < length c.args.borders.now = omega (arith, c.requires.borders.one_each, c.len-place-end.ensures) in
    slice_get_read c.args.borders.now (length c.args.borders.now) c.loop-place.place c.index-borders-place.result refl within c.index-borders-place.is

pub region_meets-requires-clause-plain : goal.region_meets-requires-clause-plain
region_meets-requires-clause-plain c =
    let is = is_border (goal.at.region_meets-requires-clause-plain c).After-index-borders-place in
    let law = law_of c.args.qp.now c.args.laws.now c.args.borders.now c.requires.borders c.args.cell.now.rows.items c.loop-place.place c.index-borders-place.result is in
    (border_of c.args.qp.now c.args.laws.now c.args.borders.now c.requires.borders c.args.cell.now.rows.items c.loop-place.place c.index-borders-place.result is law.0 law.1).plain

pub returns-then-meets_next-clause-first : goal.returns-then-meets_next-clause-first
returns-then-meets_next-clause-first c =
    let next = c.meets_next.ensures c.if-meets_next.true in
    meets_known c.args.qp.now c.args.laws.now c.args.borders.now c.requires.borders c.args.cell.now.rows.items c.args.at.next next.1.rows next.1.is_border (c.requires.known next.0) c.requires.before next.1.fits

pub returns-then-meets_next-clause-below : goal.returns-then-meets_next-clause-below
returns-then-meets_next-clause-below c =
    let next = c.requires.known (c.meets_next.ensures c.if-meets_next.true).0 in
    let within = slice_get_within c.args.laws.now c.args.at.next next.law next.is in
    (omega arith, within)

pub returns-then-meets_next-clause-left_out : goal.returns-then-meets_next-clause-left_out
returns-then-meets_next-clause-left_out c =
    let next = c.meets_next.ensures c.if-meets_next.true in
    held_left_out c.args.qp.now c.args.borders.now (record { rows = c.args.cell.now.rows.items; next = c.args.at.next }) c.args.at.held (c.requires.held next.0) next.1

pub returns-in-Ok-Met-clause-left_out : goal.returns-in-Ok-Met-clause-left_out
returns-in-Ok-Met-clause-left_out c = none_left_out c.args.qp.now c.args.borders.now (record { rows = c.args.cell.now.rows.items; next = c.loop-place.place })

pub returns-in-Ok-Met-clause-first : goal.returns-in-Ok-Met-clause-first
returns-in-Ok-Met-clause-first c =
    let is = is_border (goal.at.returns-in-Ok-Met-clause-first c).After-index-borders-place in
    let first = meets_first c.args.qp.now c.args.laws.now c.args.borders.now c.requires.borders c.args.cell.now.rows.items c.loop-place.place c.index-borders-place.result is c.cell_theorems.ensures c.loop-place.invariant.none (rw c.in-Ok-Met.field-0-is at c.in-Ok-Met.ensures.answer) in
    record { law = first.0; first = first.1; fits = meets_fit c.args.qp.now c.args.laws.now c.args.borders.now c.requires.borders c.args.cell.now.rows.items c.loop-place.place c.index-borders-place.result is c.args.at.next c.loop-place.invariant.fits c.in-Ok-Met.ensures.wide }

pub returns-in-Err-Wide-clause-wide : goal.returns-in-Err-Wide-clause-wide
returns-in-Err-Wide-clause-wide c =
    let is = is_border (goal.at.returns-in-Err-Wide-clause-wide c).After-index-borders-place in
    inl (c.loop-place.place + 1, refl, meets_wide c.args.qp.now c.args.laws.now c.args.borders.now c.requires.borders c.args.cell.now.rows.items c.loop-place.place c.index-borders-place.result is c.args.at.next (omega arith) c.loop-place.invariant.none c.loop-place.invariant.fits (rw c.in-Err-Wide.field-0-is at c.in-Err-Wide.ensures.wide))

pub loop-place-preserved-then-fits_behind : goal.loop-place-preserved-then-fits_behind
loop-place-preserved-then-fits_behind c =
    let is = is_border (goal.at.loop-place-preserved-then-fits_behind c).After-index-borders-place in
    let missed = c.loop-place.invariant.kept.missed.each c.loop-place.place c.index-borders-place.result is (c.knows.ensures.0 c.if-knows.true) in
    record {
      none = meets_none c.args.qp.now c.args.laws.now c.args.borders.now c.requires.borders c.args.cell.now.rows.items c.loop-place.place c.index-borders-place.result is c.cell_theorems.ensures c.loop-place.invariant.none (missed_now c.args.qp.now c.index-borders-place.result c.args.cell.now.rows.items _ missed);
      fits = meets_fit c.args.qp.now c.args.laws.now c.args.borders.now c.requires.borders c.args.cell.now.rows.items c.loop-place.place c.index-borders-place.result is c.args.at.next c.loop-place.invariant.fits (c.fits_behind.ensures.meets c.if-fits_behind.true);
      opened = c.loop-place.invariant.opened;
      kept = record { missed = c.loop-place.invariant.kept.missed; joints = c.loop-place.invariant.kept.joints };
    }

pub loop-place-preserved : goal.loop-place-preserved
loop-place-preserved c =
    let is = is_border (goal.at.loop-place-preserved c).After-index-borders-place in
    let missed = rw c.in-Ok-Missed.field-0-is at c.in-Ok-Missed.ensures.answer in
    record {
      none = meets_none c.args.qp.now c.args.laws.now c.args.borders.now c.requires.borders c.args.cell.now.rows.items c.loop-place.place c.index-borders-place.result is c.cell_theorems.ensures c.loop-place.invariant.none (missed_now c.args.qp.now c.index-borders-place.result c.args.cell.now.rows.items c.in-Ok-Missed.rows missed);
      fits = meets_fit c.args.qp.now c.args.laws.now c.args.borders.now c.requires.borders c.args.cell.now.rows.items c.loop-place.place c.index-borders-place.result is c.args.at.next c.loop-place.invariant.fits c.in-Ok-Missed.ensures.wide;
      opened = c.in-Ok-Missed.ensures.open;
      kept = record { missed = missed_noted c.args.qp.now c.args.borders.now c.args.cell.now.rows.items c.loop-place.kept.missed c.loop-place.invariant.kept.missed c.loop-place.place c.in-Ok-Missed.rows c.index-borders-place.result is missed c.note.new.self c.note.ensures; joints = c.loop-place.invariant.kept.joints };
    }
