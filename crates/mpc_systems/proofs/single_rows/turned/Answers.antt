use Rattle.std.proofs.Common.{◌++◌, negsuc, ap, ◌∙◌, length}
use Rattle.mpc_exact.specs.Rational.{int}
use Rattle.mpc_space.specs.Vector.{vec_scale}
use Rattle.mpc_space.proofs.Entries.{length-scale}
use Rattle.mpc_systems.proofs.single_rows.turned.Goals as goal

pub returns-clause-size : goal.returns-clause-size
returns-clause-size c = ap length (c.in_ok-push_negatives.ensures.entries ∙ (λ t. c.in_ok-coefficients.ensures.empty t ++ vec_scale (int (negsuc 0)) (c.as_slice.ensures t))) ∙ length-scale (int (negsuc 0)) c.args.row.now.a
