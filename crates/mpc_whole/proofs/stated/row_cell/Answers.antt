use Rattle.std.proofs.Common.{◌∙◌, ◌-◌, ◌*ℤ◌, sym, ap, arith}
use Rattle.std.proofs.lemmas.Option.{IfSome_then}
use Rattle.mpc_runs.specs.WholeNumbers.{whole_total}
use Rattle.mpc_scaled.specs.Scaled.{whole_cell}
use Rattle.mpc_whole.proofs.StatedRows.{row_cell-side}
use Rattle.mpc_whole.proofs.stated.row_cell.Goals as goal

pub returns : goal.returns
returns c =
    IfSome_then c.wide_side_cell.result c.wide_side_cell.ensures
    (λ z is. is ∙ ap (λ w. whole_total w (λ j. whole_cell w c.args.entries.now (c.args.row_variable - w) j *ℤ whole_cell w c.args.numbers.now j c.args.column)) c.unknowns-width.ensures
    ∙ sym (row_cell-side c.args.system.now c.args.entries.now c.args.numbers.now c.args.row_variable c.args.column (let e = c.unknowns-width.ensures in let h = c.if-row_variable-width.false in omega arith)))
