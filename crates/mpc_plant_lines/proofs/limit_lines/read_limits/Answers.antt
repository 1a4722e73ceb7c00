use Rattle.std.proofs.lemmas.Result.{err_from_is_err_and}
use Rattle.mpc_plant_lines.proofs.LimitLemmas.{grid_fails}
use Rattle.mpc_plant_lines.proofs.limit_lines.read_limits.Goals as goal

pub returns-in_err-axes : goal.returns-in_err-axes
returns-in_err-axes c =
    let same = err_from_is_err_and c.from_residual-in_err-axes.result c.from_residual-in_err-axes.ensures.1 in
    rw (same.1, same.2)
    (grid_fails c.args.version c.args.sizes.now c.args.lines.now c.read_rows.new.lines c.read_terminal.new.lines c.read_grid.new.lines c.read_grid.new.lines c.in_ok-rows.rows c.in_ok-terminal.terminal c.in_err-axes.field-0.0 c.in_ok-rows.ensures c.in_ok-terminal.ensures
    c.in_err-axes.ensures)
