use Rattle.std.proofs.Common.{◌≡◌, ◌≤◌, ◌^◌, ◌-◌, ◌∙◌, ap, sym, subst, to_z, of_z, pos, unsigned_abs}
use Rattle.std.specs.Int.{w64}
use Rattle.mpc_exact.specs.Rational.{int, ◌*ℚ◌}
use Rattle.mpc_space.specs.Total.{total}
use Rattle.mpc_sweep.specs.Numbers.{number}
use Rattle.mpc_tree.proofs.WholeRows.{read64, excess_some}
use Rattle.mpc_tree.proofs.rows.excess.Goals as goal

pub returns-clause-value : goal.returns-clause-value
returns-clause-value c =
    let n = c.args.numbers.now in
    let l = c.args.unknowns.now in
    let den : c.signed.result ≡ pos n.w.den = c.signed.ensures.value ∙ ap pos c.den.ensures in
    excess_some c.args.qp.now c.args._law.now c.args.row_number c.args.place c.requires.shape c.requires.from_one c.requires.to_last c.requires.column n l c.requires.numbers c.requires.unknowns c.with_product-2.result
    (to_z w64 (of_z w64 c.in_ok-sum.sum)) (to_z w64 (of_z w64 c.signed.result)) (to_z w64 (of_z w64 c.in_ok-left.left)) (to_z w64 (of_z w64 c.at.result)) (to_z w64 (of_z w64 l.against))
    (ap int (read64 c.in_ok-sum.sum c.in_ok-sum.ensures.small)
    ∙ subst (λ m. int c.in_ok-sum.sum ≡ total m (λ k. int (number n.g (c.args.row_number - 1) k) *ℚ int (number l.moves k c.args.place))) c.cols-count.ensures.value c.in_ok-sum.ensures.value)
    (read64 c.signed.result (subst (λ z. unsigned_abs z ≤ 2 ^ 62) (sym den) c.requires.numbers.right.table.small_den) ∙ den)
    (read64 c.in_ok-left.left c.in_ok-left.ensures.small ∙ c.in_ok-left.ensures.value)
    (ap (λ z. to_z w64 (of_z w64 z)) c.at.ensures ∙ read64 (number n.w (c.args.row_number - 1) c.args.place) (c.requires.numbers.right.table.small.each _))
    (read64 l.against c.requires.unknowns.small) c.with_product-2.ensures.value
