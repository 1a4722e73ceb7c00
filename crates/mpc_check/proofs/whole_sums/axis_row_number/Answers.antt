use Rattle.std.proofs.Common.{false, sym, ◌∙◌, ap, subst, to_z, of_z}
use Rattle.std.specs.Int.{w128}
use Rattle.std.proofs.lemmas.Int.{to_z-of_z}
use Rattle.mpc_exact.specs.Rational.{int}
use Rattle.mpc_space.specs.Vector.{coordinate}
use Rattle.mpc_rows.specs.SetRuns.{axis}
use Rattle.mpc_check.specs.Columns.{number_in, IsColumnOf}
use Rattle.mpc_check.proofs.WholeRows.{read_back, axis_is}
use Rattle.mpc_check.proofs.whole_sums.axis_row_number.Goals as goal

pub returns-in-Unknown : goal.returns-in-Unknown
returns-in-Unknown c width inside =
    ap int (read_back c.axis_number.result c.axis_number.type_inv)
    ∙ axis_is width c.args.state c.in-Unknown.unknown (to_z w128 (of_z w128 c.args.value)) c.axis_number.result (subst (IsColumnOf width) c.in-Unknown.is inside) c.axis_number.ensures
    ∙ ap (λ v. coordinate (axis width c.args.state (int v)) c.in-Unknown.unknown) (to_z-of_z w128 c.args.value c.ranges.value)
    ∙ ap (λ column. number_in column (record { a = axis width c.args.state (int c.args.value); b = int c.args.side; strict = false })) (sym c.in-Unknown.is)
