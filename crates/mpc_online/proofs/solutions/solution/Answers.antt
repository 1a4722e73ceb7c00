use Rattle.std.proofs.Common.{sym, ◌∙◌, ap}
use Rattle.mpc_space.specs.Matrix.{height}
use Rattle.mpc_online.proofs.Solved.{matrix_height, matrix_columns}
use Rattle.mpc_online.proofs.Eliminated.{only, fits, not_dependent, wide}
use Rattle.mpc_online.proofs.solutions.solution.Goals as goal

pub solve-requires-clause-square : goal.solve-requires-clause-square
solve-requires-clause-square c =
    ap height c.in_ok-matrix.ensures ∙ matrix_height c.args.qp.now c.args.set
    ∙ sym (ap (λ m. m.columns) c.in_ok-matrix.ensures ∙ matrix_columns c.args.qp.now c.args.set)

pub solve-requires-clause-rows : goal.solve-requires-clause-rows
solve-requires-clause-rows c = c.requires.rows ∙ sym (ap height c.in_ok-matrix.ensures ∙ matrix_height c.args.qp.now c.args.set)

pub returns-in-Ok-Unique-clause-only : goal.returns-in-Ok-Unique-clause-only
returns-in-Ok-Unique-clause-only c = only c.args.qp.now c.args.set c.in_ok-matrix.matrix c.args.right.now c.in_ok-matrix.ensures c.in-Ok-Unique.field-0 c.in-Ok-Unique.solved c.in-Ok-Unique.field-0-is c.in-Ok-Unique.ensures.answer

pub returns-in-Ok-Unique-clause-wide : goal.returns-in-Ok-Unique-clause-wide
returns-in-Ok-Unique-clause-wide c = fits c.args.qp.now c.args.set c.in_ok-matrix.matrix c.args.right.now c.in_ok-matrix.ensures c.in-Ok-Unique.field-0 c.in-Ok-Unique.ensures.fits

pub returns-in-Err-Wide-clause-wide : goal.returns-in-Err-Wide-clause-wide
returns-in-Err-Wide-clause-wide c = wide c.args.qp.now c.args.set c.in_ok-matrix.matrix c.args.right.now c.in_ok-matrix.ensures c.in-Err-Wide.field-0 c.in-Err-Wide.field-0-0 c.in-Err-Wide.field-0-is c.in-Err-Wide.ensures.wide

pub unreachable-requires : goal.unreachable-requires
unreachable-requires c = not_dependent c.args.qp.now c.args.set c.in_ok-matrix.matrix c.args.right.now c.in_ok-matrix.ensures c.in-Ok-Dependent.field-0 c.in-Ok-Dependent.field-0-0 c.in-Ok-Dependent.field-0-is c.requires.definite c.requires.independent c.in-Ok-Dependent.ensures.answer
