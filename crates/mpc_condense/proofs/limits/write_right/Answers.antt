use Rattle.std.proofs.Common.{◌+◌, arith, rules, sym, ◌∙◌, subst}
use Rattle.std.proofs.lemmas.Result.{MatchResult-from_err}
use Rattle.mpc_exact.specs.Rational.{neg_ℚ}
use Rattle.mpc_frac.specs.Fits.{FitsSum}
use Rattle.mpc_space.specs.Vector.{dot}
use Rattle.mpc_space.specs.Matrix.{height}
use Rattle.mpc_linear.specs.Dot.{DotFits}
use Rattle.mpc_condense.specs.Motion.{bound_of}
use Rattle.mpc_condense.specs.Blocks.{row_at}
use Rattle.mpc_condense.proofs.Writing.{writes_entry_as, all_entry_as, all_to, not_entry, difference_is, fits_difference_as}
use Rattle.mpc_condense.proofs.limits.write_right.Goals as goal

pub loop-column-preserved : goal.loop-column-preserved
loop-column-preserved c =
    let p = c.in_ok-product.ensures.value ∙ (λ t. dot (c.row.ensures t) (c.as_slice.ensures t)) in
    record {
      written = writes_entry_as c.args.out.now c.loop-column.out c.set.new.self c.args.at_row 0 c.loop-column.column (c.loop-column.column + 1) c.in_ok-value.value _ c.set.ensures (omega arith) c.requires.row (omega arith) (omega arith)
          (difference_is c.bound.result c.in_ok-product.product c.in_ok-value.value _ _ c.bound.ensures p c.in_ok-value.ensures.value) c.loop-column.invariant.written;
      fits = all_entry_as c.args.at_row 0 c.loop-column.column (c.loop-column.column + 1) _ (omega arith) (
        subst (DotFits (row_at c.args.from_counts.now c.loop-column.column)) c.as_slice.ensures (subst (λ r. DotFits r c.as_slice.result.now) c.row.ensures c.in_ok-product.ensures.wide),
        fits_difference_as c.bound.result c.in_ok-product.product _ _ c.bound.ensures p c.in_ok-value.ensures.wide,
      ) c.loop-column.invariant.fits;
    }

pub returns-in_err-product-clause-wide : goal.returns-in_err-product-clause-wide
returns-in_err-product-clause-wide c =
    MatchResult-from_err c.from_residual.result _ _ (search rules)
    (λ _. not_entry c.args.at_row 0 (height c.args.from_counts.now) c.loop-column.column
    (λ _ b. DotFits (row_at c.args.from_counts.now b) c.args.row.now.x × FitsSum (bound_of c.args.row.now b) (neg_ℚ (dot (row_at c.args.from_counts.now b) c.args.row.now.x)))
    (omega arith) (omega arith)
    (λ h. c.in_err-product.ensures.wide (subst (λ r. DotFits r c.as_slice.result.now) (sym c.row.ensures) (subst (DotFits (row_at c.args.from_counts.now c.loop-column.column)) (sym c.as_slice.ensures) h.0))))

pub returns-in_err-value-clause-wide : goal.returns-in_err-value-clause-wide
returns-in_err-value-clause-wide c =
    let p = c.in_ok-product.ensures.value ∙ (λ t. dot (c.row.ensures t) (c.as_slice.ensures t)) in
    MatchResult-from_err c.from_residual-in_err-value.result _ _ (search rules)
    (λ _. not_entry c.args.at_row 0 (height c.args.from_counts.now) c.loop-column.column
    (λ _ b. DotFits (row_at c.args.from_counts.now b) c.args.row.now.x × FitsSum (bound_of c.args.row.now b) (neg_ℚ (dot (row_at c.args.from_counts.now b) c.args.row.now.x)))
    (omega arith) (omega arith)
    (λ h. c.in_err-value.ensures.wide (fits_difference_as _ _ c.bound.result c.in_ok-product.product (sym c.bound.ensures) (sym p) h.1)))

pub returns-clause-wide : goal.returns-clause-wide
returns-clause-wide c = all_to c.args.at_row (c.args.at_row + 1) 0 c.loop-column.column (c.args.at_row + 1) (height c.args.from_counts.now) _ (omega arith) (omega arith) c.loop-column.invariant.fits
