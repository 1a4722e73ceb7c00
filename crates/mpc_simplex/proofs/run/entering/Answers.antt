use Rattle.std.proofs.Common.{sym}
use Rattle.mpc_rows.specs.Run.{may_enter}
use Rattle.mpc_runs.specs.Table.{position_of}
use Rattle.mpc_runs.proofs.Table.{least_none, least_some, least_start}
use Rattle.mpc_simplex.proofs.run.entering.Goals as goal

pub loop-variable-init : goal.loop-variable-init
loop-variable-init c = least_start (may_enter c.args.system.now (position_of c.args.system.now.width c.args.seats.now c.args.entries.now) c.args.leaving)

pub returns-then-may_enter-clause-least : goal.returns-then-may_enter-clause-least
returns-then-may_enter-clause-least c = sym (least_some (may_enter c.args.system.now (position_of c.args.system.now.width c.args.seats.now c.args.entries.now) c.args.leaving) c.args.variables c.loop-variable.variable c.may_enter.result c.loop-variable-test.true c.loop-variable.invariant c.may_enter.ensures c.if-may_enter.true)

pub loop-variable-preserved : goal.loop-variable-preserved
loop-variable-preserved c = least_none (may_enter c.args.system.now (position_of c.args.system.now.width c.args.seats.now c.args.entries.now) c.args.leaving) c.loop-variable.variable c.may_enter.result c.loop-variable.invariant c.may_enter.ensures c.if-may_enter.false
