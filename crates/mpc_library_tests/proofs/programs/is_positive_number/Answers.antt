use Rattle.std.proofs.Common.{◌∙◌, sym, subst, pos, arith}
use Rattle.mpc_exact.specs.Rational.{int, ◌<ℚ◌}
use Rattle.mpc_exact.proofs.OrderTheorems.{lt_ℚ-true}
use Rattle.mpc_library_tests.proofs.SmallPrograms.{one_definite, one_symmetric}
use Rattle.mpc_library_tests.proofs.programs.is_positive_number.Goals as goal

pub returns-clause-definite : goal.returns-clause-definite
returns-clause-definite c = λ so.
    one_definite c.args.matrix.now (omega arith) (omega arith) c.rows.ensures.rectangular
    (subst (λ x. int (pos 0) <ℚ x) c.get.ensures (lt_ℚ-true (sym c.is_positive.ensures ∙ so)))

pub returns-clause-symmetric : goal.returns-clause-symmetric
returns-clause-symmetric c = λ so. one_symmetric c.args.matrix.now (omega arith) (omega arith) c.rows.ensures.rectangular
