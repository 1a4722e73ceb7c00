use Rattle.std.proofs.Common.{arith}
use Rattle.mpc_recur.proofs.rows.substituted.Goals as goal

pub dot_with_forms-requires-clause-column : goal.dot_with_forms-requires-clause-column
dot_with_forms-requires-clause-column c = λ k d h. let size = c.requires.affine k d h in omega (arith, size)
