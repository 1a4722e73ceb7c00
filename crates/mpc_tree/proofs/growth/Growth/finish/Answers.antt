use Rattle.std.proofs.Common.{◌≡◌, ◌∙◌, ◌+◌, ◌-◌, ◌<◌, ◌++◌, ◌∷◌, [], sym, ap, subst, arith, length, take}
use Rattle.std.proofs.lemmas.List.{append-nil}
use Rattle.mpc_space.specs.Matrix.{height}
use Rattle.mpc_rows.specs.LawRows.{whole_row}
use Rattle.mpc_tree.specs.Causes.{IfWide}
use Rattle.mpc_tree.specs.CellRuns.{IsRunOf}
use Rattle.mpc_tree.specs.Growth.{IsSplitAt, IsLeafAt}
use Rattle.mpc_tree.specs.WideRuns.{IsWideAt}
use Rattle.mpc_tree.proofs.CellRuns.{row_fits, narrowed}
use Rattle.mpc_tree.proofs.Dividing.{place_within, row_within, rows_read, row_read, row_inside, plain_read, known_at, grown_at}
use Rattle.mpc_tree.proofs.Ending.{smaller_at, smaller_leaf, weights}
use Rattle.mpc_tree.proofs.Growing.{next_at, last_at, shared_within, top_run, wide_at}
use Rattle.mpc_tree.proofs.LeftOut.{held_first}
use Rattle.mpc_tree.proofs.MissedLaws.{missed_longer, missed_side}
use Rattle.mpc_tree.proofs.growth.Growth.finish.Goals as goal

pub returns-in-Err-clause-wide : goal.returns-in-Err-clause-wide
returns-in-Err-clause-wide c =
    wide_at c.args.qp.now c.args.laws.now (record { rows = c.args.self.now.cell.rows.items; next = c.args.self.now.next }) c.args.borders.now c.nodes.self.tree (record { rows = c.nodes.self.cell.rows.items; next = c.nodes.self.next }) c.nodes.self.sides.items c.nodes.self.held c.nodes.invariant.grown c.in-Err.error
    (subst (λ n. IfWide c.in-Err.error (IsWideAt c.args.qp.now c.args.laws.now (record { rows = c.nodes.self.cell.rows.items; next = c.nodes.self.next }) n)) (ap (λ rows. length rows + 1) c.as_slice.ensures)
    c.in-Err.ensures.wide)

pub place_node-requires-clause-held : goal.place_node-requires-clause-held
place_node-requires-clause-held c h = held_first c.args.qp.now c.args.borders.now (record { rows = c.nodes.self.cell.rows.items; next = c.nodes.self.next }) c.args.laws.now c.requires.borders c.nodes.self.held c.nodes.invariant.grown.held_within c.nodes.invariant.grown.holds

pub bounds-borders-place : goal.bounds-borders-place
bounds-borders-place c =
    let s : IsSplitAt c.args.qp.now c.args.laws.now c.args.borders.now (record { rows = c.nodes.self.cell.rows.items; next = c.nodes.self.next }) c.in-Ok-Split.place c.in-Ok-Split.row = (rw c.in-Ok-Split.field-0-is at c.in-Ok-Split.ensures.placed).0 in
    omega (arith, place_within c.args.qp.now c.args.laws.now c.args.borders.now c.requires.borders (record { rows = c.nodes.self.cell.rows.items; next = c.nodes.self.next }) c.in-Ok-Split.place c.in-Ok-Split.row s, c.requires.borders.one_each)

pub offset_bounds-borders-place : goal.offset_bounds-borders-place
offset_bounds-borders-place c =
    let s : IsSplitAt c.args.qp.now c.args.laws.now c.args.borders.now (record { rows = c.nodes.self.cell.rows.items; next = c.nodes.self.next }) c.in-Ok-Split.place c.in-Ok-Split.row = (rw c.in-Ok-Split.field-0-is at c.in-Ok-Split.ensures.placed).0 in
    omega (arith, place_within c.args.qp.now c.args.laws.now c.args.borders.now c.requires.borders (record { rows = c.nodes.self.cell.rows.items; next = c.nodes.self.next }) c.in-Ok-Split.place c.in-Ok-Split.row s, c.requires.few)

pub bounds-rows-row : goal.bounds-rows-row
bounds-rows-row c =
    let s : IsSplitAt c.args.qp.now c.args.laws.now c.args.borders.now (record { rows = c.nodes.self.cell.rows.items; next = c.nodes.self.next }) c.in-Ok-Split.place c.in-Ok-Split.row = (rw c.in-Ok-Split.field-0-is at c.in-Ok-Split.ensures.placed).0 in
    row_inside c.args.qp.now c.args.laws.now c.args.borders.now c.requires.borders (record { rows = c.nodes.self.cell.rows.items; next = c.nodes.self.next }) c.in-Ok-Split.place c.in-Ok-Split.row s c.as_slice-rows.result.now (rows_read c.args.qp.now c.args.laws.now c.args.borders.now c.requires.borders (record { rows = c.nodes.self.cell.rows.items; next = c.nodes.self.next }) c.in-Ok-Split.place c.in-Ok-Split.row s c.index-borders-place.result c.as_slice-rows.result.now c.index-borders-place.is c.as_slice-rows.ensures)

pub offset_bounds-rows-row : goal.offset_bounds-rows-row
offset_bounds-rows-row c =
    let s : IsSplitAt c.args.qp.now c.args.laws.now c.args.borders.now (record { rows = c.nodes.self.cell.rows.items; next = c.nodes.self.next }) c.in-Ok-Split.place c.in-Ok-Split.row = (rw c.in-Ok-Split.field-0-is at c.in-Ok-Split.ensures.placed).0 in
    omega (arith, row_within c.args.qp.now c.args.laws.now c.args.borders.now c.requires.borders (record { rows = c.nodes.self.cell.rows.items; next = c.nodes.self.next }) c.in-Ok-Split.place c.in-Ok-Split.row s, c.args.qp.now.is_program.few_rows)

pub open_split-requires-clause-small : goal.open_split-requires-clause-small
open_split-requires-clause-small c =
    let s : IsSplitAt c.args.qp.now c.args.laws.now c.args.borders.now (record { rows = c.nodes.self.cell.rows.items; next = c.nodes.self.next }) c.in-Ok-Split.place c.in-Ok-Split.row = (rw c.in-Ok-Split.field-0-is at c.in-Ok-Split.ensures.placed).0 in
    (plain_read c.args.qp.now c.args.laws.now c.args.borders.now c.requires.borders (record { rows = c.nodes.self.cell.rows.items; next = c.nodes.self.next }) c.in-Ok-Split.place c.in-Ok-Split.row s c.index-rows-row.result (row_read c.args.qp.now c.args.laws.now c.args.borders.now c.requires.borders (record { rows = c.nodes.self.cell.rows.items; next = c.nodes.self.next }) c.in-Ok-Split.place c.in-Ok-Split.row s c.as_slice-rows.result.now c.index-rows-row.result (rows_read c.args.qp.now c.args.laws.now c.args.borders.now c.requires.borders (record { rows = c.nodes.self.cell.rows.items; next = c.nodes.self.next }) c.in-Ok-Split.place c.in-Ok-Split.row s c.index-borders-place.result c.as_slice-rows.result.now c.index-borders-place.is c.as_slice-rows.ensures) c.index-rows-row.is)).small

pub open_split-requires-clause-b_small : goal.open_split-requires-clause-b_small
open_split-requires-clause-b_small c =
    let s : IsSplitAt c.args.qp.now c.args.laws.now c.args.borders.now (record { rows = c.nodes.self.cell.rows.items; next = c.nodes.self.next }) c.in-Ok-Split.place c.in-Ok-Split.row = (rw c.in-Ok-Split.field-0-is at c.in-Ok-Split.ensures.placed).0 in
    (plain_read c.args.qp.now c.args.laws.now c.args.borders.now c.requires.borders (record { rows = c.nodes.self.cell.rows.items; next = c.nodes.self.next }) c.in-Ok-Split.place c.in-Ok-Split.row s c.index-rows-row.result (row_read c.args.qp.now c.args.laws.now c.args.borders.now c.requires.borders (record { rows = c.nodes.self.cell.rows.items; next = c.nodes.self.next }) c.in-Ok-Split.place c.in-Ok-Split.row s c.as_slice-rows.result.now c.index-rows-row.result (rows_read c.args.qp.now c.args.laws.now c.args.borders.now c.requires.borders (record { rows = c.nodes.self.cell.rows.items; next = c.nodes.self.next }) c.in-Ok-Split.place c.in-Ok-Split.row s c.index-borders-place.result c.as_slice-rows.result.now c.index-borders-place.is c.as_slice-rows.ensures) c.index-rows-row.is)).b_small

pub open_split-requires-clause-width : goal.open_split-requires-clause-width
open_split-requires-clause-width c =
    let s : IsSplitAt c.args.qp.now c.args.laws.now c.args.borders.now (record { rows = c.nodes.self.cell.rows.items; next = c.nodes.self.next }) c.in-Ok-Split.place c.in-Ok-Split.row = (rw c.in-Ok-Split.field-0-is at c.in-Ok-Split.ensures.placed).0 in
    row_fits c.args.qp.now c.nodes.self.cell.rows.items c.nodes.self.cell.run c.nodes.invariant.run c.index-rows-row.result (plain_read c.args.qp.now c.args.laws.now c.args.borders.now c.requires.borders (record { rows = c.nodes.self.cell.rows.items; next = c.nodes.self.next }) c.in-Ok-Split.place c.in-Ok-Split.row s c.index-rows-row.result (row_read c.args.qp.now c.args.laws.now c.args.borders.now c.requires.borders (record { rows = c.nodes.self.cell.rows.items; next = c.nodes.self.next }) c.in-Ok-Split.place c.in-Ok-Split.row s c.as_slice-rows.result.now c.index-rows-row.result (rows_read c.args.qp.now c.args.laws.now c.args.borders.now c.requires.borders (record { rows = c.nodes.self.cell.rows.items; next = c.nodes.self.next }) c.in-Ok-Split.place c.in-Ok-Split.row s c.index-borders-place.result c.as_slice-rows.result.now c.index-borders-place.is c.as_slice-rows.ensures) c.index-rows-row.is)).size

pub open_split-requires-clause-room : goal.open_split-requires-clause-room
open_split-requires-clause-room c =
    let s : IsSplitAt c.args.qp.now c.args.laws.now c.args.borders.now (record { rows = c.nodes.self.cell.rows.items; next = c.nodes.self.next }) c.in-Ok-Split.place c.in-Ok-Split.row = (rw c.in-Ok-Split.field-0-is at c.in-Ok-Split.ensures.placed).0 in
    omega (arith, place_within c.args.qp.now c.args.laws.now c.args.borders.now c.requires.borders (record { rows = c.nodes.self.cell.rows.items; next = c.nodes.self.next }) c.in-Ok-Split.place c.in-Ok-Split.row s, c.requires.few)

pub overflow_add-self : goal.overflow_add-self
overflow_add-self c =
    let s : IsSplitAt c.args.qp.now c.args.laws.now c.args.borders.now (record { rows = c.nodes.self.cell.rows.items; next = c.nodes.self.next }) c.in-Ok-Split.place c.in-Ok-Split.row = (rw c.in-Ok-Split.field-0-is at c.in-Ok-Split.ensures.placed).0 in
    omega (arith, row_within c.args.qp.now c.args.laws.now c.args.borders.now c.requires.borders (record { rows = c.nodes.self.cell.rows.items; next = c.nodes.self.next }) c.in-Ok-Split.place c.in-Ok-Split.row s, c.args.qp.now.is_program.few_rows)

pub nodes-smaller-in-Ok-Split : goal.nodes-smaller-in-Ok-Split
nodes-smaller-in-Ok-Split c =
    let s : IsSplitAt c.args.qp.now c.args.laws.now c.args.borders.now (record { rows = c.nodes.self.cell.rows.items; next = c.nodes.self.next }) c.in-Ok-Split.place c.in-Ok-Split.row = (rw c.in-Ok-Split.field-0-is at c.in-Ok-Split.ensures.placed).0 in
    smaller_at c.args.qp.now c.args.laws.now c.args.borders.now c.requires.borders (record { rows = c.nodes.self.cell.rows.items; next = c.nodes.self.next }) c.in-Ok-Split.place c.in-Ok-Split.row s (record { rows = c.args.self.now.cell.rows.items; next = c.args.self.now.next }) c.nodes.self.tree c.nodes.self.sides.items c.nodes.self.held c.nodes.invariant.grown c.in-Ok-Split.run' c.index-rows-row.result (row_read c.args.qp.now c.args.laws.now c.args.borders.now c.requires.borders (record { rows = c.nodes.self.cell.rows.items; next = c.nodes.self.next }) c.in-Ok-Split.place c.in-Ok-Split.row s c.as_slice-rows.result.now c.index-rows-row.result (rows_read c.args.qp.now c.args.laws.now c.args.borders.now c.requires.borders (record { rows = c.nodes.self.cell.rows.items; next = c.nodes.self.next }) c.in-Ok-Split.place c.in-Ok-Split.row s c.index-borders-place.result c.as_slice-rows.result.now c.index-borders-place.is c.as_slice-rows.ensures) c.index-rows-row.is) c.open_split.new.sides.items c.in_ok-open_split-in-Ok-Split.ensures.sides

pub nodes-preserved-in-Ok-Split : goal.nodes-preserved-in-Ok-Split
nodes-preserved-in-Ok-Split c =
    let s : IsSplitAt c.args.qp.now c.args.laws.now c.args.borders.now (record { rows = c.nodes.self.cell.rows.items; next = c.nodes.self.next }) c.in-Ok-Split.place c.in-Ok-Split.row = (rw c.in-Ok-Split.field-0-is at c.in-Ok-Split.ensures.placed).0 in
    let row : c.index-rows-row.result ≡ s.row = row_read c.args.qp.now c.args.laws.now c.args.borders.now c.requires.borders (record { rows = c.nodes.self.cell.rows.items; next = c.nodes.self.next }) c.in-Ok-Split.place c.in-Ok-Split.row s c.as_slice-rows.result.now c.index-rows-row.result (rows_read c.args.qp.now c.args.laws.now c.args.borders.now c.requires.borders (record { rows = c.nodes.self.cell.rows.items; next = c.nodes.self.next }) c.in-Ok-Split.place c.in-Ok-Split.row s c.index-borders-place.result c.as_slice-rows.result.now c.index-borders-place.is c.as_slice-rows.ensures) c.index-rows-row.is in
    record {
      grown = grown_at c.args.qp.now c.args.laws.now c.args.borders.now c.requires.borders (record { rows = c.nodes.self.cell.rows.items; next = c.nodes.self.next }) c.in-Ok-Split.place c.in-Ok-Split.row s c.cell_theorems.ensures (record { rows = c.args.self.now.cell.rows.items; next = c.args.self.now.next }) c.nodes.self.tree c.nodes.self.sides.items c.nodes.self.held c.nodes.invariant.grown c.in-Ok-Split.run' (rw c.in-Ok-Split.field-0-is at c.in-Ok-Split.ensures.placed).1 c.index-rows-row.result row c.open_split.new.tree c.open_split.new.cell.rows.items c.open_split.new.sides.items c.in_ok-open_split-in-Ok-Split.ensures.tree c.in_ok-open_split-in-Ok-Split.ensures.cell c.in_ok-open_split-in-Ok-Split.ensures.sides;
      known = λ h. known_at c.args.qp.now c.args.laws.now c.args.borders.now c.requires.borders (record { rows = c.nodes.self.cell.rows.items; next = c.nodes.self.next }) c.in-Ok-Split.place c.in-Ok-Split.row s c.cell_theorems.ensures c.index-rows-row.result row c.open_split.new.cell.rows.items c.in_ok-open_split-in-Ok-Split.ensures.cell;
      kept = record { missed = missed_longer c.args.qp.now c.args.borders.now c.nodes.self.cell.rows.items c.place_node.new.kept.missed c.place_node.ensures.kept.missed (whole_row c.index-rows-row.result) c.open_split.new.cell.rows.items c.in_ok-open_split-in-Ok-Split.ensures.cell; joints = c.place_node.ensures.kept.joints };
      run = subst (λ rows. IsRunOf c.args.qp.now rows c.open_split.new.cell.run) (sym c.in_ok-open_split-in-Ok-Split.ensures.cell) (narrowed c.args.qp.now c.nodes.self.cell.rows.items c.nodes.self.cell.run c.nodes.invariant.run (whole_row c.index-rows-row.result) c.open_split.new.cell.run c.in_ok-open_split-in-Ok-Split.ensures.run);
    }

pub returns-in-None-clause-built : goal.returns-in-None-clause-built
returns-in-None-clause-built c =
    let l : IsLeafAt c.args.qp.now c.args.laws.now (record { rows = c.nodes.self.cell.rows.items; next = c.nodes.self.next }) c.in-Ok-Leaf.leaf = (rw c.in-Ok-Leaf.field-0-is at c.in-Ok-Leaf.ensures.placed) in
    last_at c.args.qp.now c.args.laws.now (record { rows = c.args.self.now.cell.rows.items; next = c.args.self.now.next }) c.args.borders.now c.nodes.self.tree c.push.new.self (record { rows = c.nodes.self.cell.rows.items; next = c.nodes.self.next }) c.nodes.self.sides.items c.nodes.self.held c.in-Ok-Leaf.leaf c.nodes.invariant.grown l (c.in-None.ensures.items ∙ append-nil c.pop.new.self.items ∙ c.in-None.ensures.rest ∙ ap (λ n. take (n - 1) c.nodes.self.sides.items) c.in-None.ensures.cases.0) c.in_ok-push-in-Ok-Leaf.ensures.ok

pub nodes-smaller : goal.nodes-smaller
nodes-smaller c =
    let less : weights (length c.args.laws.now) (height c.args.qp.now.g) c.in-Some.side.next 0 c.pop.new.self.items < weights (length c.args.laws.now) (height c.args.qp.now.g) c.nodes.self.next c.nodes.self.held (c.pop.new.self.items ++ c.in-Some.side ∷ []) = smaller_leaf c.args.qp.now c.args.laws.now c.nodes.self.next c.nodes.self.held c.pop.new.self.items c.in-Some.side in
    subst (λ n. weights (length c.args.laws.now) (height c.args.qp.now.g) n 0 c.pop.new.self.items < weights (length c.args.laws.now) (height c.args.qp.now.g) c.nodes.self.next c.nodes.self.held c.nodes.self.sides.items) (sym c.in_ok-self-in-Some.ensures.next)
    (subst (λ x. weights (length c.args.laws.now) (height c.args.qp.now.g) c.in-Some.side.next 0 c.pop.new.self.items < weights (length c.args.laws.now) (height c.args.qp.now.g) c.nodes.self.next c.nodes.self.held x) (sym c.in-Some.ensures.items) less)

pub nodes-preserved : goal.nodes-preserved
nodes-preserved c =
    let l : IsLeafAt c.args.qp.now c.args.laws.now (record { rows = c.nodes.self.cell.rows.items; next = c.nodes.self.next }) c.in-Ok-Leaf.leaf = (rw c.in-Ok-Leaf.field-0-is at c.in-Ok-Leaf.ensures.placed) in
    record {
      grown = next_at c.args.qp.now c.args.laws.now (record { rows = c.args.self.now.cell.rows.items; next = c.args.self.now.next }) c.args.borders.now c.nodes.self.tree c.push.new.self (record { rows = c.nodes.self.cell.rows.items; next = c.nodes.self.next }) c.nodes.self.sides.items c.pop.new.self.items c.in-Some.side c.nodes.self.held c.in-Ok-Leaf.leaf c.enter.new.cell.rows.items c.in_ok-self-in-Some.field-0 c.nodes.invariant.grown l c.in-Some.ensures.items c.in_ok-push-in-Ok-Leaf.ensures.ok c.in_ok-self-in-Some.ensures.cell c.in_ok-self-in-Some.ensures.next;
      known = λ h. absurd (omega arith);
      kept = record { missed = missed_side c.args.qp.now c.args.borders.now c.nodes.self.cell.rows.items c.place_node.new.kept.missed c.place_node.ensures.kept.missed c.in-Some.side.shared (shared_within c.args.qp.now c.args.laws.now (record { rows = c.args.self.now.cell.rows.items; next = c.args.self.now.next }) c.args.borders.now c.nodes.self.tree (record { rows = c.nodes.self.cell.rows.items; next = c.nodes.self.next }) c.nodes.self.sides.items c.pop.new.self.items c.in-Some.side c.nodes.self.held c.nodes.invariant.grown c.in-Some.ensures.items) c.in-Some.side.row c.enter.new.cell.rows.items c.in_ok-self-in-Some.ensures.cell c.forget.new.self c.forget.ensures; joints = c.place_node.ensures.kept.joints };
      run = top_run c.args.qp.now c.args.laws.now (record { rows = c.args.self.now.cell.rows.items; next = c.args.self.now.next }) c.args.borders.now c.nodes.self.tree (record { rows = c.nodes.self.cell.rows.items; next = c.nodes.self.next }) c.nodes.self.sides.items c.pop.new.self.items c.in-Some.side c.nodes.self.held c.nodes.invariant.grown c.in-Some.ensures.items c.enter.new.cell.rows.items c.enter.new.cell.run c.in_ok-self-in-Some.ensures.cell c.in_ok-self-in-Some.ensures.run;
    }

pub enter-requires : goal.enter-requires
enter-requires c = shared_within c.args.qp.now c.args.laws.now (record { rows = c.args.self.now.cell.rows.items; next = c.args.self.now.next }) c.args.borders.now c.nodes.self.tree (record { rows = c.nodes.self.cell.rows.items; next = c.nodes.self.next }) c.nodes.self.sides.items c.pop.new.self.items c.in-Some.side c.nodes.self.held c.nodes.invariant.grown c.in-Some.ensures.items
