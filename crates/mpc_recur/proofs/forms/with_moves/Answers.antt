use Rattle.std.proofs.Common.{[], ◌≤◌, length, get_or, refl, arith}
use Rattle.mpc_space.specs.Vector.{column}
use Rattle.mpc_recur.proofs.FormLemmas.{b_row_size, law_inputs, moves_column_size, moves_entry}
use Rattle.mpc_recur.proofs.SumLemmas.{sum_begins, sum_more, sum_wide, sum_value, sum_fits}
use Rattle.mpc_recur.proofs.forms.with_moves.Goals as goal

pub loop-q-init : goal.loop-q-init
loop-q-init c =
    let plant = c.args.plant.now in
    let law = c.args.law.now in
    let room : plant.p ≤ length (column law.moves.rows c.args.term) = omega (arith, law_inputs plant law c.requires.law, moves_column_size plant law c.args.term) in
    sum_begins c.sum_theorems.ensures c.args.start.now (get_or plant.b.rows c.args.index []) (column law.moves.rows c.args.term) plant.p (b_row_size plant c.args.index c.requires.coordinate) room c.args.start.now refl

pub loop-q-preserved : goal.loop-q-preserved
loop-q-preserved c =
    let plant = c.args.plant.now in
    let law = c.args.law.now in
    let room : plant.p ≤ length (column law.moves.rows c.args.term) = omega (arith, law_inputs plant law c.requires.law, moves_column_size plant law c.args.term) in
    sum_more c.sum_theorems.ensures c.args.start.now (get_or plant.b.rows c.args.index []) (column law.moves.rows c.args.term) plant.p (b_row_size plant c.args.index c.requires.coordinate) room
    c.loop-q.q c.loop-q.sum _ _ c.loop-q-test.true c.get.ensures (moves_entry law.moves.rows c.loop-q.q c.args.term c.get-in-loop-q.result c.get-in-loop-q.ensures) c.loop-q.invariant _ c.in-Ok.ensures.value c.in-Ok.ensures.wide

pub returns-in-Err-clause-wide : goal.returns-in-Err-clause-wide
returns-in-Err-clause-wide c =
    let plant = c.args.plant.now in
    let law = c.args.law.now in
    let room : plant.p ≤ length (column law.moves.rows c.args.term) = omega (arith, law_inputs plant law c.requires.law, moves_column_size plant law c.args.term) in
    sum_wide c.sum_theorems.ensures c.args.start.now (get_or plant.b.rows c.args.index []) (column law.moves.rows c.args.term) plant.p (b_row_size plant c.args.index c.requires.coordinate) room
    c.loop-q.q c.loop-q.sum _ _ c.loop-q-test.true c.get.ensures (moves_entry law.moves.rows c.loop-q.q c.args.term c.get-in-loop-q.result c.get-in-loop-q.ensures) c.loop-q.invariant c.in-Err.ensures.wide

pub returns-clause-value : goal.returns-clause-value
returns-clause-value c =
    let plant = c.args.plant.now in
    let law = c.args.law.now in
    let room : plant.p ≤ length (column law.moves.rows c.args.term) = omega (arith, law_inputs plant law c.requires.law, moves_column_size plant law c.args.term) in
    sum_value c.sum_theorems.ensures c.args.start.now (get_or plant.b.rows c.args.index []) (column law.moves.rows c.args.term) plant.p (b_row_size plant c.args.index c.requires.coordinate) room c.loop-q.q c.loop-q.sum c.loop-q-test.false c.loop-q.invariant

pub returns-clause-wide : goal.returns-clause-wide
returns-clause-wide c =
    let plant = c.args.plant.now in
    let law = c.args.law.now in
    let room : plant.p ≤ length (column law.moves.rows c.args.term) = omega (arith, law_inputs plant law c.requires.law, moves_column_size plant law c.args.term) in
    sum_fits c.sum_theorems.ensures c.args.start.now (get_or plant.b.rows c.args.index []) (column law.moves.rows c.args.term) plant.p (b_row_size plant c.args.index c.requires.coordinate) room c.loop-q.q c.loop-q.sum c.loop-q-test.false c.loop-q.invariant
