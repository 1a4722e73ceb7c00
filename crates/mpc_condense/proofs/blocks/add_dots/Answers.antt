use Rattle.std.proofs.Common.{◌+◌, arith, rules, sym, ◌∙◌, ap, subst}
use Rattle.std.proofs.lemmas.Result.{MatchResult-from_err}
use Rattle.mpc_frac.specs.Fits.{FitsSum}
use Rattle.mpc_space.specs.Vector.{dot}
use Rattle.mpc_space.specs.Matrix.{entry}
use Rattle.mpc_linear.specs.Dot.{DotFits}
use Rattle.mpc_condense.specs.Blocks.{row_at}
use Rattle.mpc_condense.proofs.Writing.{writes_entry_as, unwritten_entry, all_entry_as, all_to, not_entry, sum_is, fits_sum_as}
use Rattle.mpc_condense.proofs.blocks.add_dots.Goals as goal

pub loop-column-preserved : goal.loop-column-preserved
loop-column-preserved c =
    let g = c.get.ensures ∙ unwritten_entry c.args.out.now c.loop-column.out c.args.at_row 0 c.loop-column.column _ c.loop-column.invariant.written in
    let p = c.in_ok-product.ensures.value ∙ ap (dot c.args.vector.now) c.row.ensures in
    record {
      written = writes_entry_as c.args.out.now c.loop-column.out c.set.new.self c.args.at_row 0 c.loop-column.column (c.loop-column.column + 1) c.in_ok-sum.sum _ c.set.ensures (omega arith) c.requires.row (omega arith) (omega arith)
          (sum_is c.get.result c.in_ok-product.product c.in_ok-sum.sum _ _ g p c.in_ok-sum.ensures.value) c.loop-column.invariant.written;
      fits = all_entry_as c.args.at_row 0 c.loop-column.column (c.loop-column.column + 1) _ (omega arith)
          (subst (DotFits c.args.vector.now) c.row.ensures c.in_ok-product.ensures.wide, fits_sum_as c.get.result c.in_ok-product.product _ _ g p c.in_ok-sum.ensures.wide) c.loop-column.invariant.fits;
    }

pub returns-in_err-product-clause-wide : goal.returns-in_err-product-clause-wide
returns-in_err-product-clause-wide c =
    MatchResult-from_err c.from_residual.result _ _ (search rules)
    (λ _. not_entry c.args.at_row 0 c.args.count c.loop-column.column
    (λ a b. DotFits c.args.vector.now (row_at c.args.matrix.now b) × FitsSum (entry c.args.out.now a b) (dot c.args.vector.now (row_at c.args.matrix.now b)))
    (omega arith) (omega arith) (λ h. c.in_err-product.ensures.wide (subst (DotFits c.args.vector.now) (sym c.row.ensures) h.0)))

pub returns-clause-wide : goal.returns-clause-wide
returns-clause-wide c = all_to c.args.at_row (c.args.at_row + 1) 0 c.loop-column.column (c.args.at_row + 1) c.args.count _ (omega arith) (omega arith) c.loop-column.invariant.fits
