use Rattle.std.proofs.Common.{◌∙◌, ap, arith}
use Rattle.mpc_space.specs.Matrix.{RationalMatrix, height}
use Rattle.mpc_region.proofs.SharedEntries.{shared_height, shared_columns}
use Rattle.mpc_region.proofs.shared.form.Goals as goal

pub keep-requires-clause-rows : goal.keep-requires-clause-rows
keep-requires-clause-rows c = omega (arith, c.rows.ensures.value, ap height c.in_ok-table.ensures ∙ shared_height c.args.qp.now)

pub keep-requires-clause-columns : goal.keep-requires-clause-columns
keep-requires-clause-columns c = omega (arith, c.rows.ensures.value, ap (λ (m : RationalMatrix). m.columns) c.in_ok-table.ensures ∙ shared_columns c.args.qp.now)
