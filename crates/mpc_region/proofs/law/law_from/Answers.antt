use Rattle.std.proofs.Common.{◌≡◌, ◌+◌, length, refl, arith, ap, ◌∙◌}
use Rattle.mpc_space.specs.Matrix.{height, entry, tabled}
use Rattle.mpc_region.proofs.LawTheorem.{matrix_columns}
use Rattle.mpc_region.proofs.LawForms.{law_is}
use Rattle.mpc_region.proofs.law.law_from.Goals as goal

pub part-requires : goal.part-requires
part-requires c =
    let e : height c.args.solution.now ≡ height c.args.qp.now.h + length c.args.set = c.requires.solution.shape.rows_are ∙ matrix_columns c.args.qp.now c.args.set in
    omega arith

pub part-requires-2 : goal.part-requires-2
part-requires-2 c =
    let e : height c.args.solution.now ≡ height c.args.qp.now.h + length c.args.set = c.requires.solution.shape.rows_are ∙ matrix_columns c.args.qp.now c.args.set in
    omega arith

pub returns-clause-law : goal.returns-clause-law
returns-clause-law c =
    law_is c.args.qp.now c.args.set c.args.solution.now c.requires.solution _ c.requires.set_of_rows c.requires.few refl
    (c.in_ok-part.ensures ∙ ap (λ k. tabled k c.args.solution.now.columns (λ i j. entry c.args.solution.now (0 + i) j)) c.rows-unknowns.ensures.value)
    (c.in_ok-part-2.ensures ∙ (λ t. tabled (c.size.ensures.value t) c.args.solution.now.columns (λ i j. entry c.args.solution.now (c.rows-unknowns.ensures.value t + i) j)))
