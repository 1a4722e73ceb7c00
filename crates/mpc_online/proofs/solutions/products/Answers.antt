use Rattle.std.proofs.Common.{◌≡◌, List, [], get_or, sym, ◌∙◌, ap, subst, arith}
use Rattle.mpc_exact.specs.Rational.{ℚ}
use Rattle.mpc_space.specs.Vector.{dot, mat_vec}
use Rattle.mpc_space.specs.Matrix.{height}
use Rattle.mpc_space.proofs.Matrix.{length-mat_vec, coordinate-mat_vec}
use Rattle.mpc_space.proofs.Outcomes.{below_next}
use Rattle.mpc_linear.specs.Dot.{DotFits}
use Rattle.mpc_online.proofs.Filled.{IsFilled, filled_none, filled_more, filled_all}
use Rattle.mpc_online.proofs.solutions.products.Goals as goal

pub loop-index-init : goal.loop-index-init
loop-index-init c = record { filled = filled_none _ _ c.in_ok-out.ensures.items; fits = λ k h. absurd (omega arith) }

pub loop-index-preserved : goal.loop-index-preserved
loop-index-preserved c = record {
  filled = filled_more _ _ _ _ _ c.in_ok-push-in-Ok.ensures.items (c.in-Ok.ensures.value ∙ ap (λ (r : List ℚ). dot r c.args.list.now) c.row.ensures) c.loop-index.invariant.filled;
  fits = below_next (λ k. DotFits (get_or c.args.matrix.now.rows k []) c.args.list.now) c.loop-index.index c.loop-index.invariant.fits (subst (λ (r : List ℚ). DotFits r c.args.list.now) c.row.ensures c.in-Ok.ensures.wide);
}

pub returns-clause-value : goal.returns-clause-value
returns-clause-value c =
    let last : c.loop-index.index ≡ height c.args.matrix.now = omega (arith, c.loop-index-test.false, c.loop-index.auto.index-end) in
    filled_all c.loop-index.out.items (mat_vec c.args.matrix.now.rows c.args.list.now) (height c.args.matrix.now) (λ i. dot (get_or c.args.matrix.now.rows i []) c.args.list.now)
    (subst (λ n. IsFilled c.loop-index.out.items n (λ i. dot (get_or c.args.matrix.now.rows i []) c.args.list.now)) last c.loop-index.invariant.filled)
    (length-mat_vec c.args.matrix.now.rows c.args.list.now) (λ k h. coordinate-mat_vec c.args.matrix.now.rows c.args.list.now k)

pub returns-clause-wide : goal.returns-clause-wide
returns-clause-wide c i h = c.loop-index.invariant.fits i (omega (arith, h, c.loop-index-test.false, c.rows-index-end.ensures.value))

pub returns-in-Err-clause-wide : goal.returns-in-Err-clause-wide
returns-in-Err-clause-wide c = λ f. c.in-Err.ensures.wide (subst (λ (r : List ℚ). DotFits r c.args.list.now) (sym c.row.ensures) (f c.loop-index.index (omega (arith, c.loop-index-test.true, c.rows-index-end.ensures.value))))
