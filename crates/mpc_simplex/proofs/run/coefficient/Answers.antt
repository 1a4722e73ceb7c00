use Rattle.std.proofs.Common.{◌∙◌, ◌<◌, sym, ap, subst, subst₂}
use Rattle.mpc_runs.specs.Table.{cell_at, HasShape}
use Rattle.mpc_runs.proofs.Seats.{cell_read}
use Rattle.mpc_simplex.proofs.run.coefficient.Goals as goal

pub cell-requires-clause-shape : goal.cell-requires-clause-shape
cell-requires-clause-shape c = subst₂ (λ h w. HasShape h w c.args.entries.now) (sym c.height.ensures) (sym c.unknowns.ensures) c.requires.table.shape

pub cell-requires-clause-row : goal.cell-requires-clause-row
cell-requires-clause-row c = subst (λ h. c.row_of-row.result < h) (sym c.height.ensures) (c.requires.table.seated.rows c.args.basic c.row_of-row.result c.requires.basic_below c.row_of-row.ensures).0

pub cell-requires-clause-column : goal.cell-requires-clause-column
cell-requires-clause-column c = subst (λ w. c.column_of-column.result < w) (sym c.unknowns.ensures) (c.requires.table.seated.columns c.args.nonbasic c.column_of-column.result c.requires.y_below c.column_of-column.ensures).0

pub returns : goal.returns
returns c =
    c.cell.ensures ∙ ap (λ w. cell_at w c.args.entries.now c.row_of-row.result c.column_of-column.result) c.unknowns.ensures
    ∙ cell_read c.args.system.now.width c.args.variables c.args.seats.now c.args.entries.now c.requires.table.seated.each c.args.basic c.args.nonbasic c.row_of-row.result c.column_of-column.result
    c.requires.basic_below c.requires.y_below c.row_of-row.ensures c.column_of-column.ensures
