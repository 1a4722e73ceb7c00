use Rattle.std.proofs.Common.{◌≡◌, ◌+◌, ◌-◌, ◌<◌, ◌++◌, ◌∷◌, [], suc, pos, neg_ℤ, ◌∙◌, ap, subst, arith, to_z, of_z}
use Rattle.std.specs.Int.{w64}
use Rattle.mpc_exact.specs.Rational.{int, ◌*ℚ◌}
use Rattle.mpc_space.specs.Vector.{coordinate}
use Rattle.mpc_rows.specs.LawRows.{member_form}
use Rattle.mpc_sweep.specs.Numbers.{number}
use Rattle.mpc_tree.specs.WholeRows.{AreSides}
use Rattle.mpc_tree.proofs.WholeRows.{read64, read_wide, sides_more, member_side}
use Rattle.mpc_tree.proofs.rows.member_sides.Goals as goal

pub loop-column-preserved : goal.loop-column-preserved
loop-column-preserved c =
    let scale = int (pos c.args.mults.now.den) in
    let form = member_form c.args.law.now c.args.place in
    let column = c.loop-column.column in
    let z = number c.args.mults.now c.args.place column in
    let value_is : c.negative.result ≡ neg_ℤ z = c.negative.ensures.value ∙ ap neg_ℤ (ap (λ y. to_z w64 (of_z w64 y)) c.at-value.ensures ∙ read64 z (c.requires.mults.table.small.each _)) in
    let within : column < c.args.law.now.mults.columns = subst (λ n. column < n) c.cols-column-end.ensures.value c.loop-column-test.true in
    let next : column - 1 + 1 ≡ column + 1 - 1 = omega arith in
    let here : column ≡ suc (column - 1) = omega arith in
    subst (λ k. AreSides scale form k c.push.new.self) next
    (sides_more scale form (column - 1) c.loop-column.sides c.push.new.self c.negative.result c.loop-column.invariant
    (ap int value_is ∙ member_side c.args.law.now c.args.mults.now c.requires.mults c.args.place column c.requires.place within ∙ ap (λ k. scale *ℚ coordinate form k) here) c.negative.ensures.small
    (c.in_ok-push.ensures.ok ∙ ap (λ x. c.loop-column.sides ++ x ∷ []) (read_wide c.negative.result c.negative.ensures.small)))
