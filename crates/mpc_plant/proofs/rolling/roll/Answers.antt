use Rattle.std.proofs.Common.{◌∙◌, sym, ap, length}
use Rattle.std.proofs.lemmas.Result.{err_from_is_err_and}
use Rattle.mpc_plant.proofs.Carried.{IfWide-weaker}
use Rattle.mpc_plant.specs.Trajectory.{point_of}
use Rattle.mpc_plant.specs.RollWidth.{IsFirstWideState}
use Rattle.mpc_plant.proofs.RollLemmas.{state_size}
use Rattle.mpc_plant.proofs.RolledStates.{start_size, rolled_none, next_width, rolled_more, next_wide}
use Rattle.mpc_plant.proofs.rolling.roll.Goals as goal

pub write_row-requires-clause-width : goal.write_row-requires-clause-width
write_row-requires-clause-width c =
    start_size c.args.plant.now (point_of c.args.counts.now) c.args.moves.now.rows c.requires.inside c.in_ok-state.state c.in_ok-state.ensures.value
    ∙ sym (ap (λ m. m.columns) c.in_ok-states.ensures)

pub loop-step-init : goal.loop-step-init
loop-step-init c =
    rolled_none c.args.plant.now (point_of c.args.counts.now) c.args.moves.now.rows c.requires.inside c.in_ok-states.states c.write_row.new.matrix c.in_ok-state.state c.in_ok-states.ensures c.in_ok-state.ensures.value c.in_ok-state.ensures.wide
    c.write_row.ensures.rows c.write_row.ensures.columns

pub next_state-requires-clause-state : goal.next_state-requires-clause-state
next_state-requires-clause-state c =
    ap length (c.as_slice.ensures ∙ c.loop-step.invariant.here) ∙ state_size c.args.plant.now (point_of c.args.counts.now) c.args.moves.now.rows c.loop-step.step c.requires.inside

pub returns-in_err-state-2-clause-wide : goal.returns-in_err-state-2-clause-wide
returns-in_err-state-2-clause-wide c =
    let p = err_from_is_err_and c.from_residual-in_err-state-2.result c.from_residual-in_err-state-2.ensures.1 in
    rw (p.1, p.2) (IfWide-weaker _ _ (IsFirstWideState c.args.plant.now (point_of c.args.counts.now) c.args.moves.now.rows)
    (λ step h. next_wide c.args.plant.now (point_of c.args.counts.now) c.args.moves.now.rows c.requires.inside c.loop-step.step c.loop-step-test.true c.loop-step.states c.loop-step.state c.loop-step.invariant c.as_slice.result.now c.row.result.now c.as_slice.ensures c.row.ensures
    step h.0 h.1)
    c.in_err-state-2.ensures.wide)

pub write_row-requires-in-loop-step-clause-width : goal.write_row-requires-in-loop-step-clause-width
write_row-requires-in-loop-step-clause-width c =
    next_width c.args.plant.now (point_of c.args.counts.now) c.args.moves.now.rows c.requires.inside c.loop-step.step c.loop-step-test.true c.loop-step.states c.loop-step.state c.loop-step.invariant c.as_slice.result.now c.row.result.now c.as_slice.ensures c.row.ensures
    c.in_ok-state-2.state c.in_ok-state-2.ensures.value

pub loop-step-preserved : goal.loop-step-preserved
loop-step-preserved c =
    rolled_more c.args.plant.now (point_of c.args.counts.now) c.args.moves.now.rows c.requires.inside c.loop-step.step c.loop-step-test.true c.loop-step.states c.loop-step.state c.loop-step.invariant c.as_slice.result.now c.row.result.now c.as_slice.ensures c.row.ensures
    c.write_row-in-loop-step.new.matrix c.in_ok-state-2.state c.in_ok-state-2.ensures.value c.in_ok-state-2.ensures.wide c.write_row-in-loop-step.ensures.rows c.write_row-in-loop-step.ensures.columns
