use Rattle.std.proofs.Common.{◌∙◌}
use Rattle.mpc_simplex.proofs.Cells.{whole_pivot, fits_own, fits_own_back}
use Rattle.mpc_simplex.proofs.tableau.exchange.Goals as goal

pub own_row-requires-clause-some : goal.own_row-requires-clause-some
own_row-requires-clause-some c = c.requires.some

pub change_rows-requires-clause-room : goal.change_rows-requires-clause-room
change_rows-requires-clause-room c = c.own_row.auto.row ∙ c.requires.room

pub returns-in-Err-clause-wide : goal.returns-in-Err-clause-wide
returns-in-Err-clause-wide c = λ f. c.in-Err.ensures.wide f.own

pub returns-in-Err-change_rows-clause-wide : goal.returns-in-Err-change_rows-clause-wide
returns-in-Err-change_rows-clause-wide c = λ f.
    c.in-Err-change_rows.ensures.wide
    (fits_own_back c.args.height c.args.width c.args.entries.now c.args.entries.now c.args.entries.now c.own_row.new.row c.args.pivot_row c.args.pivot_column c.requires.column c.in-Ok.ensures.cells f.others)

pub returns-clause-exchanged : goal.returns-clause-exchanged
returns-clause-exchanged c =
    whole_pivot c.args.height c.args.width c.args.entries.now c.change_rows.new.entries c.put_row.new.entries c.own_row.new.row c.args.pivot_row c.args.pivot_column c.requires.column c.in-Ok.ensures.cells
    c.in-Ok-change_rows.ensures.changed c.put_row.ensures

pub returns-clause-wide : goal.returns-clause-wide
returns-clause-wide c = record {
  own = c.in-Ok.ensures.wide;
  others = fits_own c.args.height c.args.width c.args.entries.now c.args.entries.now c.args.entries.now c.own_row.new.row c.args.pivot_row c.args.pivot_column c.requires.column c.in-Ok.ensures.cells c.in-Ok-change_rows.ensures.wide;
}
