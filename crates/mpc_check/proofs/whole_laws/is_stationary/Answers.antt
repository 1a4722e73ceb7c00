use Rattle.std.proofs.Common.{sym, ◌∙◌}
use Rattle.mpc_check.proofs.WholeSums.{read_wide}
use Rattle.mpc_check.proofs.WholeLaws.{stationary_met}
use Rattle.mpc_check.proofs.whole_laws.is_stationary.Goals as goal

pub returns : goal.returns
returns c t =
    stationary_met c.args.qp.now c.args.program.now c.requires.program c.args.law.now c.requires.shape c.args.at_column c.args.column.now c.requires.coefficients c.requires.column c.args.line c.gradient_over.result c.gradient_over.ensures.value c.gradient_over.ensures.fits
    (sym (read_wide c.gradient_over.result c.gradient_over.type_inv) ∙ c.are_same.ensures.0 t)
