use Rattle.std.proofs.Common.{◌+◌, sym, subst}
use Rattle.mpc_space.specs.Matrix.{entry}
use Rattle.mpc_bordered.specs.Kept.{IsFormed}
use Rattle.mpc_bordered.specs.Stages.{widened}
use Rattle.mpc_bordered.proofs.Combined.{kept_widened, next_of}
use Rattle.mpc_bordered.proofs.stages.next_number.Goals as goal

pub returns : goal.returns
returns c =
    let t = entry c.args.kept.now.table in
    let u = c.args.kept.now.front in
    next_of t u c.args.stage.now c.args.pivot_column c.args.row c.args.column c.next_entry.result (λ f stage.
    c.next_entry.ensures (widened t u f) (u + c.args.column)
    (kept_widened t u f c.args.pivot_column c.args.row c.at-2.result c.requires.column c.requires.row c.at-2.ensures)
    (c.divided-quotient.ensures (widened t u f) c.args.pivot_column (u + c.args.column)
    (kept_widened t u f c.args.pivot_column c.args.pivot_column c.at.result c.requires.column c.requires.column c.at.ensures)
    (subst (IsFormed (widened t u f) c.args.pivot_column c.args.pivot_column (u + c.args.column)) (sym c.get.ensures) (stage.entries c.args.pivot_column c.args.column c.requires.column c.requires.place)))
    (subst (IsFormed (widened t u f) c.args.pivot_column c.args.row (u + c.args.column)) (sym c.get-2.ensures) (stage.entries c.args.row c.args.column c.requires.row c.requires.place)))
