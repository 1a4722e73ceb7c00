use Rattle.std.proofs.Common.{[], ◌∙◌, ap}
use Rattle.mpc_systems.specs.Systems.{meet_system}
use Rattle.mpc_tree.proofs.CellRuns.{own_run}
use Rattle.mpc_tree.proofs.runs.KeptCell.of.Goals as goal

pub returns-clause-run : goal.returns-clause-run
returns-clause-run c = own_run c.args.qp.now c.args.rows.items c.in_ok-system.system (c.in_ok-system.ensures ∙ ap (λ rows. meet_system c.args.qp.now rows []) c.deref.ensures.value) c.in_ok-run.run' c.in_ok-run.ensures
