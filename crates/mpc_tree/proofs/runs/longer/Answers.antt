use Rattle.mpc_tree.proofs.CellRuns.{run_with}
use Rattle.mpc_tree.proofs.runs.longer.Goals as goal

pub returns-in-Some : goal.returns-in-Some
returns-in-Some c = run_with c.args.run.now c.in-Some.run' c.in-Some.is c.args.row.now c.extend.result c.extend.ensures
