use Rattle.std.proofs.Common.{◌≡◌, ◌+◌, ◌-◌, ◌*◌, ◌<◌, length, get_or, map, ap, ◌∙◌, arith}
use Rattle.std.proofs.lemmas.List.{get_or_default}
use Rattle.mpc_rows.specs.SetRuns.{box_rows}
use Rattle.mpc_rows.specs.LinearSystem.{no_row}
use Rattle.mpc_systems.specs.Writing.{widened}
use Rattle.mpc_controller.specs.Ways.{way_rows}
use Rattle.mpc_check.proofs.RowPlaces.{same_value, box_count, in_box, in_path, in_last}
use Rattle.mpc_check.proofs.SplitRows.{way_row, way_count}
use Rattle.mpc_check.proofs.rows.system_row.Goals as goal

pub returns-then-place-states : goal.returns-then-place-states
returns-then-place-states c =
    let counts = c.args.qp.now.counts in
    let width = length counts + c.args.more in
    let path = map (widened c.args.more) (way_rows c.args.cell.now.tree.now c.args.cell.now.way.now) in
    same_value c.box_row.result _ _
    (ap (λ w. get_or (box_rows w counts) c.args.place no_row) (omega (arith, c.len-states.ensures))
    ∙ in_box (box_rows width counts) path c.args.last.now (2 * length counts) (length path) c.args.place (box_count width 0 counts) (omega arith) (omega (arith, c.len-states.ensures, c.if-place-states.true)))
    c.box_row.ensures

pub returns-then-behind-way : goal.returns-then-behind-way
returns-then-behind-way c =
    let counts = c.args.qp.now.counts in
    let width = length counts + c.args.more in
    let path = map (widened c.args.more) (way_rows c.args.cell.now.tree.now c.args.cell.now.way.now) in
    let states = c.len-states.ensures in
    let behind : c.args.place - 2 * c.len-states.result ≡ c.args.place - 2 * length counts = ap (λ n. c.args.place - 2 * n) states in
    same_value c.turn_row.result _ _
    (way_row c.args.cell.now.tree.now c.args.cell.now.way.now c.args.more (c.args.place - 2 * c.len-states.result) _ c.if-behind-way.true
    ∙ ap (λ i. get_or path i no_row) behind
    ∙ in_path (box_rows width counts) path c.args.last.now (2 * length counts) (length c.args.cell.now.way.now) c.args.place (box_count width 0 counts) (way_count c.args.cell.now.tree.now c.args.cell.now.way.now c.args.more) (omega (arith, c.if-place-states.false)) (omega (arith, c.if-behind-way.true)))
    c.turn_row.ensures

pub returns : goal.returns
returns c =
    let counts = c.args.qp.now.counts in
    let width = length counts + c.args.more in
    let path = map (widened c.args.more) (way_rows c.args.cell.now.tree.now c.args.cell.now.way.now) in
    let states = c.len-states.ensures in
    let behind : c.args.place - 2 * c.len-states.result - length c.args.cell.now.way.now ≡ c.args.place - 2 * length counts - length c.args.cell.now.way.now = ap (λ n. c.args.place - 2 * n - length c.args.cell.now.way.now) states in
    let inside : c.args.place - 2 * c.len-states.result - length c.args.cell.now.way.now < length c.args.last.now = omega (arith, c.if-place-states.false, c.if-behind-way.false, c.requires.place) in
    same_value c.copy.result _ _
    (c.index-last-behind.is ∙ get_or_default c.args.last.now (c.args.place - 2 * c.len-states.result - length c.args.cell.now.way.now) c.index-last-behind.result no_row inside
    ∙ ap (λ i. get_or c.args.last.now i no_row) behind
    ∙ in_last (box_rows width counts) path c.args.last.now (2 * length counts) (length c.args.cell.now.way.now) c.args.place (box_count width 0 counts) (way_count c.args.cell.now.tree.now c.args.cell.now.way.now c.args.more) (omega (arith, c.if-place-states.false)) (omega (arith, c.if-behind-way.false)))
    c.copy.ensures
