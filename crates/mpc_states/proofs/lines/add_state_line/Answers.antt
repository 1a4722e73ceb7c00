use Rattle.std.proofs.Common.{ap, take}
use Rattle.std.proofs.lemmas.Result.{on_ok_weaker}
use Rattle.mpc_plant.specs.Trajectory.{point_of}
use Rattle.mpc_states.proofs.LineLemmas.{narrow, adds_moves, adds_none, adds_wide}
use Rattle.mpc_states.proofs.lines.add_state_line.Goals as goal

pub returns-in-Ok-Best-clause-line : goal.returns-in-Ok-Best-clause-line
returns-in-Ok-Best-clause-line c =
    let t = point_of c.args.counts.now in
    on_ok_weaker c.add_moves.result
    (λ e. adds_moves c.args.program.now c.args.inputs t c.args.text.now.items c.add_moves.new.text.items c.in-Ok-Best.moves (take c.args.inputs c.as_slice-all.result.now)
    (narrow c.run_theorems.ensures c.args.program.now t c.in-Ok-Best.field-0 c.in-Ok-Best.ensures.end)
    (rw c.in-Ok-Best.moves-is (rw c.in-Ok-Best.field-0-is at c.in-Ok-Best.ensures.best)) (ap (take c.args.inputs) c.as_slice-all.ensures) e)
    c.add_moves.ensures

pub returns-in-Ok-Refuted-clause-line : goal.returns-in-Ok-Refuted-clause-line
returns-in-Ok-Refuted-clause-line c =
    let t = point_of c.args.counts.now in
    on_ok_weaker c.add_text.result
    (λ e. adds_none c.args.program.now c.args.inputs t c.args.text.now.items c.add_text.new.text.items (narrow c.run_theorems.ensures c.args.program.now t c.in-Ok-Refuted.field-0 c.in-Ok-Refuted.ensures.end)
    (rw c.in-Ok-Refuted.field-0-is at c.in-Ok-Refuted.ensures.infeasible) e)
    c.add_text.ensures.ok

pub returns-in-Err-Wide-clause-line : goal.returns-in-Err-Wide-clause-line
returns-in-Err-Wide-clause-line c =
    on_ok_weaker c.add_text-in-Err-Wide.result
    (λ e. adds_wide c.args.program.now c.args.inputs (point_of c.args.counts.now) c.args.text.now.items c.add_text-in-Err-Wide.new.text.items c.in-Err-Wide.field-0-0
    (rw c.in-Err-Wide.field-0-is at c.in-Err-Wide.ensures.wide) e)
    c.add_text-in-Err-Wide.ensures.ok
