use Rattle.std.proofs.Common.{sym, ◌∙◌, ap}
use Rattle.mpc_space.specs.Matrix.{height}
use Rattle.mpc_region.proofs.LawTheorem.{matrix_height, matrix_columns, right_height}
use Rattle.mpc_region.proofs.LawEnds.{solution, found, dependent, wide}
use Rattle.mpc_region.proofs.law.law_solved.Goals as goal

pub solve-requires-clause-square : goal.solve-requires-clause-square
solve-requires-clause-square c =
    ap height c.requires.matrix ∙ matrix_height c.args.qp.now c.args.set
    ∙ sym (ap (λ m. m.columns) c.requires.matrix ∙ matrix_columns c.args.qp.now c.args.set)

pub solve-requires-clause-rows : goal.solve-requires-clause-rows
solve-requires-clause-rows c =
    ap height c.requires.right ∙ right_height c.args.qp.now c.args.set
    ∙ sym (ap height c.requires.matrix ∙ matrix_height c.args.qp.now c.args.set)

pub law_from-requires-clause-solution : goal.law_from-requires-clause-solution
law_from-requires-clause-solution c =
    solution c.args.qp.now c.args.set c.args.matrix.now c.args.right.now c.requires.matrix c.requires.right c.in-Ok-Unique.field-0 c.in-Ok-Unique.solution c.in-Ok-Unique.field-0-is c.in-Ok-Unique.ensures.answer

pub returns-in_ok-law_from-in-Ok-Unique : goal.returns-in_ok-law_from-in-Ok-Unique
returns-in_ok-law_from-in-Ok-Unique c =
    found c.args.qp.now c.args.set c.args.matrix.now c.args.right.now c.requires.matrix c.requires.right c.in-Ok-Unique.field-0 c.in-Ok-Unique.solution c.in_ok-law_from-in-Ok-Unique.field-0
    c.in-Ok-Unique.field-0-is c.in-Ok-Unique.ensures.answer c.in-Ok-Unique.ensures.fits c.in_ok-law_from-in-Ok-Unique.ensures.set c.in_ok-law_from-in-Ok-Unique.ensures.law

pub returns-in-Ok-Dependent : goal.returns-in-Ok-Dependent
returns-in-Ok-Dependent c =
    dependent c.args.qp.now c.args.set c.args.matrix.now c.args.right.now c.requires.matrix c.requires.right c.in-Ok-Dependent.field-0 c.in-Ok-Dependent.field-0-0
    c.in-Ok-Dependent.field-0-is c.requires.definite c.in-Ok-Dependent.ensures.answer c.in-Ok-Dependent.ensures.fits

pub returns-in-Err-Wide : goal.returns-in-Err-Wide
returns-in-Err-Wide c = wide c.args.qp.now c.args.set c.args.matrix.now c.args.right.now c.requires.matrix c.requires.right c.in-Err-Wide.field-0 c.in-Err-Wide.field-0-0 c.in-Err-Wide.field-0-is c.in-Err-Wide.ensures.wide
