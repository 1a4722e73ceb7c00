use Rattle.std.proofs.Common.{◌≡◌, ℕ, ◌+◌, arith, rules, sym, ap, subst}
use Rattle.std.proofs.lemmas.Result.{MatchResult-from_err}
use Rattle.mpc_exact.specs.Rational.{◌+ℚ◌}
use Rattle.mpc_frac.specs.Fits.{FitsSum}
use Rattle.mpc_space.specs.Vector.{dot}
use Rattle.mpc_space.specs.Matrix.{entry}
use Rattle.mpc_linear.specs.Dot.{DotFits}
use Rattle.mpc_condense.specs.Blocks.{row_at}
use Rattle.mpc_condense.proofs.Writing.{writes_row_as, unwritten_row, all_row_as, not_row, fits_sum_as}
use Rattle.mpc_condense.proofs.blocks.add_products.Goals as goal

pub loop-at_row-preserved : goal.loop-at_row-preserved
loop-at_row-preserved c =
    let a = c.loop-at_row.at_row in
    let g : (b : ℕ) → entry c.loop-at_row.out a b ≡ entry c.args.out.now a b = λ b. unwritten_row c.args.out.now c.loop-at_row.out 0 a 0 c.args.count _ b c.loop-at_row.invariant.written in
    record {
      written = writes_row_as c.args.out.now c.loop-at_row.out c.add_dots.new.out 0 a (a + 1) 0 c.args.count _ _ (omega arith) (omega arith) c.loop-at_row.invariant.written c.in_ok-add_dots.ensures.ok
          (λ b _ _. λ t. g b t +ℚ dot (c.row.ensures t) (row_at c.args.right.now b));
      fits = all_row_as 0 a (a + 1) 0 c.args.count _ _ (omega arith)
          (λ b _ _ h. (subst (λ r. DotFits r (row_at c.args.right.now b)) c.row.ensures h.0, fits_sum_as _ _ _ _ (g b) (ap (λ r. dot r (row_at c.args.right.now b)) c.row.ensures) h.1))
          c.in_ok-add_dots.ensures.wide c.loop-at_row.invariant.fits;
    }

pub returns-in_err-add_dots-clause-wide : goal.returns-in_err-add_dots-clause-wide
returns-in_err-add_dots-clause-wide c =
    let a = c.loop-at_row.at_row in
    let g : (b : ℕ) → entry c.loop-at_row.out a b ≡ entry c.args.out.now a b = λ b. unwritten_row c.args.out.now c.loop-at_row.out 0 a 0 c.args.count _ b c.loop-at_row.invariant.written in
    MatchResult-from_err c.from_residual.result _ _ (search rules)
    (λ _. not_row 0 c.args.rows a 0 c.args.count
    (λ a b. DotFits (row_at c.args.left.now a) (row_at c.args.right.now b) × FitsSum (entry c.args.out.now a b) (dot (row_at c.args.left.now a) (row_at c.args.right.now b)))
    (λ a b. DotFits c.row.result.now (row_at c.args.right.now b) × FitsSum (entry c.loop-at_row.out a b) (dot c.row.result.now (row_at c.args.right.now b)))
    (omega arith) (omega arith)
    (λ b _ _ h. (subst (λ r. DotFits r (row_at c.args.right.now b)) (sym c.row.ensures) h.0, fits_sum_as _ _ _ _ (sym (g b)) (ap (λ r. dot r (row_at c.args.right.now b)) (sym c.row.ensures)) h.1))
    c.in_err-add_dots.ensures.wide)
