use Rattle.std.proofs.Common.{subst₂, min}
use Rattle.mpc_space.specs.Matrix.{entry}
use Rattle.mpc_bordered.specs.Kept.{IsFormed}
use Rattle.mpc_bordered.proofs.Picking.{picked_behind, picked_first}
use Rattle.mpc_bordered.proofs.parts.picked.Goals as goal

pub returns-then-kept-column : goal.returns-then-kept-column
returns-then-kept-column c =
    let k = c.args.kept.now in
    picked_behind k.table k.front c.args.rows.now c.args.rights.now c.requires.places k.kept.rows_enough k.kept.columns_enough c.args.row c.args.column c.requires.row c.requires.column c.in-Some.number
    (subst₂ (λ i j. IsFormed (entry k.table) (min j k.front) i j c.in-Some.number) c.row_place-table_row.ensures c.column_place-table_column.ensures c.in-Some.ensures) c.if-kept-column.true

pub returns : goal.returns
returns c =
    let k = c.args.kept.now in
    picked_first k.table k.front c.args.rows.now c.args.rights.now c.requires.places k.kept.rows_enough k.kept.columns_enough c.args.row c.args.column c.requires.row c.requires.column c.in-Some.number
    (subst₂ (λ i j. IsFormed (entry k.table) (min j k.front) i j c.in-Some.number) c.row_place-table_row.ensures c.column_place-table_column.ensures c.in-Some.ensures)
    c.unit-entry.result k.kept.pivots c.if-kept-column.false c.unit-entry.ensures c.num-fits.ensures.fits
