use Rattle.std.proofs.Common.{[], get_or, pos, ◌∙◌}
use Rattle.mpc_exact.specs.Rational.{int}
use Rattle.mpc_space.specs.Vector.{column, dot}
use Rattle.mpc_recur.specs.Forms.{state_forms}
use Rattle.mpc_recur.proofs.FormLemmas.{state_columns_room, a_row_size}
use Rattle.mpc_recur.proofs.SumLemmas.{sum_begins, sum_more, sum_wide, sum_value, sum_fits, from_zero}
use Rattle.mpc_recur.proofs.forms.from_state.Goals as goal

pub loop-source-init : goal.loop-source-init
loop-source-init c =
    let plant = c.args.plant.now in
    sum_begins c.sum_theorems.ensures (int (pos 0)) (get_or plant.a.rows c.args.index []) (column (state_forms plant) c.args.term) plant.n (a_row_size plant c.args.index c.requires.coordinate) (state_columns_room plant c.args.term) _ c.whole-sum.ensures

pub loop-source-preserved : goal.loop-source-preserved
loop-source-preserved c =
    let plant = c.args.plant.now in
    sum_more c.sum_theorems.ensures (int (pos 0)) (get_or plant.a.rows c.args.index []) (column (state_forms plant) c.args.term) plant.n (a_row_size plant c.args.index c.requires.coordinate) (state_columns_room plant c.args.term)
    c.loop-source.source c.loop-source.sum _ _ c.loop-source-test.true c.get.ensures c.state_coefficient.ensures c.loop-source.invariant _ c.in-Ok.ensures.value c.in-Ok.ensures.wide

pub returns-in-Err-clause-wide : goal.returns-in-Err-clause-wide
returns-in-Err-clause-wide c =
    let plant = c.args.plant.now in
    sum_wide c.sum_theorems.ensures (int (pos 0)) (get_or plant.a.rows c.args.index []) (column (state_forms plant) c.args.term) plant.n (a_row_size plant c.args.index c.requires.coordinate) (state_columns_room plant c.args.term)
    c.loop-source.source c.loop-source.sum _ _ c.loop-source-test.true c.get.ensures c.state_coefficient.ensures c.loop-source.invariant c.in-Err.ensures.wide

pub returns-clause-value : goal.returns-clause-value
returns-clause-value c =
    let plant = c.args.plant.now in
    sum_value c.sum_theorems.ensures (int (pos 0)) (get_or plant.a.rows c.args.index []) (column (state_forms plant) c.args.term) plant.n (a_row_size plant c.args.index c.requires.coordinate) (state_columns_room plant c.args.term)
    c.loop-source.source c.loop-source.sum c.loop-source-test.false c.loop-source.invariant ∙ from_zero (dot (get_or plant.a.rows c.args.index []) (column (state_forms plant) c.args.term))

pub returns-clause-wide : goal.returns-clause-wide
returns-clause-wide c =
    let plant = c.args.plant.now in
    sum_fits c.sum_theorems.ensures (int (pos 0)) (get_or plant.a.rows c.args.index []) (column (state_forms plant) c.args.term) plant.n (a_row_size plant c.args.index c.requires.coordinate) (state_columns_room plant c.args.term)
    c.loop-source.source c.loop-source.sum c.loop-source-test.false c.loop-source.invariant
