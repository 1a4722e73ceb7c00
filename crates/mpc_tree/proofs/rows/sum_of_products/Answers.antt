use Rattle.std.proofs.Common.{sym, ◌∙◌, ap, arith, to_z, of_z}
use Rattle.std.specs.Int.{w64}
use Rattle.mpc_exact.specs.Rational.{int, ◌*ℚ◌}
use Rattle.mpc_space.proofs.Total.{total-zero}
use Rattle.mpc_sweep.specs.Numbers.{number}
use Rattle.mpc_tree.proofs.WholeRows.{read64, small64, sum_more}
use Rattle.mpc_tree.proofs.rows.sum_of_products.Goals as goal

pub loop-index-init : goal.loop-index-init
loop-index-init c = record { value = sym (total-zero (λ k. int (number c.args.left.now c.args.row k) *ℚ int (number c.args.moves.now k c.args.column))); small = omega arith }

pub loop-index-preserved : goal.loop-index-preserved
loop-index-preserved c = record {
  value = ap int (read64 c.in_ok-sum.sum c.in_ok-sum.ensures.small)
      ∙ sum_more c.args.left.now c.args.moves.now c.args.row c.args.column c.loop-index.index (to_z w64 c.loop-index.sum-bits) c.in_ok-sum.sum (to_z w64 (of_z w64 c.at.result)) (to_z w64 (of_z w64 c.at-in-loop-index.result))
      (ap (λ z. to_z w64 (of_z w64 z)) c.at.ensures ∙ read64 (number c.args.left.now c.args.row c.loop-index.index) (c.requires.left.small.each _))
      (ap (λ z. to_z w64 (of_z w64 z)) c.at-in-loop-index.ensures ∙ read64 (number c.args.moves.now c.loop-index.index c.args.column) (c.requires.right.small.each _))
      c.in_ok-sum.ensures.value c.loop-index.invariant.value;
  small = small64 c.in_ok-sum.sum c.in_ok-sum.ensures.small;
}
